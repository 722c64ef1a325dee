-- The definitions of an M1 source. Public source: the language M1 of stage0-posix and mescc-tools, whose exact rules here are this
-- project's profile. docs/reference/m1.md says the same for people.
use Rattle.std.specs.Prelude.{ℕ, bytes_eq, Bool, not, if◌then◌else◌, List, [], ◌∷◌, ◌++◌, codes, is_some, Option, Some, None, Result, Ok, Err}
use Rattle.std.specs.Map.{lookup}
use Rattle.m1_lang.specs.Words.Words.{Word, Words, open_quote, word_list}
use Rattle.m1_lang.specs.Words.Forms.{value_tokens}
use Rattle.m1_lang.specs.declared.refusal.M1Refusal.{M1Refusal}
use Rattle.m1_lang.specs.declared.refusal.M1Refusal.TheVariants.{BadDefine, DoubleDefine, OpenString}

-- a part of a source: a definition with the offset of its `DEFINE`, a `DEFINE` followed by fewer than two words, or another word
pub data SourcePart : Type 0 where
  Defines : (at : ℕ) (name value : List ℕ) → SourcePart
  Cut : (at : ℕ) → SourcePart
  Plain : (word : Word) → SourcePart

abbrev pub is_define : List ℕ → Bool
is_define text = bytes_eq text (codes "DEFINE")

-- `DEFINE` and the two words after it are one definition
abbrev pub parts : List Word → List SourcePart
parts [] = []
parts (word ∷ []) = if is_define word.text then Cut word.at ∷ [] else Plain word ∷ []
parts (word ∷ name ∷ []) = if is_define word.text then Cut word.at ∷ [] else Plain word ∷ parts (name ∷ [])
parts (word ∷ name ∷ value ∷ rest) =
    if is_define word.text then Defines word.at name.text value.text ∷ parts rest
    else Plain word ∷ parts (name ∷ value ∷ rest)

-- the names of the definitions
abbrev pub defined_names : List SourcePart → List (List ℕ)
defined_names [] = []
defined_names (Defines at name value ∷ rest) = name ∷ defined_names rest
defined_names (part ∷ rest) = defined_names rest

-- the words outside definitions
abbrev pub plain_words : List SourcePart → List Word
plain_words [] = []
plain_words (Plain word ∷ rest) = word ∷ plain_words rest
plain_words (part ∷ rest) = plain_words rest

-- names and the texts of their values
abbrev pub Defined : Type 0
Defined = List (List ℕ × List ℕ)

-- the value that a definition gives a word
abbrev pub value_in : Defined → List ℕ → Option (List ℕ)
value_in defined text = lookup (bytes_eq text) defined

abbrev pub is_value : List ℕ → Bool
is_value text = is_some (value_tokens text)

-- one definition after those so far. BadDefine precedes DoubleDefine
abbrev pub defined_with : Defined → ℕ → List ℕ → List ℕ → Result Defined M1Refusal
defined_with seen at name value =
    if not (is_value value) then Err (BadDefine at)
    else if is_some (value_in seen name) then Err (DoubleDefine at)
    else Ok (seen ++ (name, value) ∷ [])

abbrev pub with_defined : Result Defined M1Refusal → (Defined → Result Defined M1Refusal) → Result Defined M1Refusal
with_defined (Ok seen) rest = rest seen
with_defined (Err why) rest = Err why

-- the definitions of a source in order, after those so far, or the first refusal
abbrev pub definitions : Defined → List SourcePart → Result Defined M1Refusal
definitions seen [] = Ok seen
definitions seen (Defines at name value ∷ rest) = with_defined (defined_with seen at name value) (λ more. definitions more rest)
definitions seen (Cut at ∷ rest) = Err (BadDefine at)
definitions seen (Plain word ∷ rest) = definitions seen rest

-- a quote that is not closed is refused before every definition
abbrev pub unless_open : Option ℕ → Result Defined M1Refusal → Result Defined M1Refusal
unless_open (Some at) later = Err (OpenString at)
unless_open None later = later

-- the definitions of a source, or the first refusal of its quotes and definitions
abbrev pub definitions_in : Words → Result Defined M1Refusal
definitions_in words = unless_open (open_quote words) (definitions [] (parts (word_list words)))
