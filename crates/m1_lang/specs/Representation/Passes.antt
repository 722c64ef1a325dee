-- What the code's passes over a source do. To read the promises, this file is not needed.
use Rattle.std.specs.Prelude.{◌≡◌, ℕ, ◌<◌, ◌≤◌, bytes_eq, Bool, not, if◌then◌else◌, is_some, List, [], ◌∷◌, ◌++◌, length, Option, Some, None, Result, Ok, Err}
use Rattle.indexmap.specs.IndexMap.{IndexMap, get}
use Rattle.ddc_base.specs.declared.name_tables.NamesKey.{NamesKey}
use Rattle.hex_langs.specs.NameKeys.{Took}
use Rattle.hex_langs.specs.declared.name_keys.KeyNames.{KeyNames}
use Rattle.hex_langs.specs.declared.items.item.Item.{Item}
use Rattle.hex_langs.specs.declared.items.token.Token.{Token}
use Rattle.hex_langs.specs.declared.items.words.Open.{Open}
use Rattle.hex_langs.specs.declared.items.words.Halt.{Halt}
use Rattle.hex_langs.specs.declared.items.words.Halt.TheVariants as halt
use Rattle.hex_langs.specs.Items.Reading.{formed, Reading, with_prefix}
use Rattle.m1_lang.specs.declared.words.meaning.WordFault.{WordFault}
use Rattle.m1_lang.specs.Words.Words.{open_quote, Word, word_list}
use Rattle.m1_lang.specs.Words.Ahead.{words_at}
use Rattle.m1_lang.specs.Words.Forms.{Tokens}
use Rattle.m1_lang.specs.declared.refusal.M1Refusal.{M1Refusal}
use Rattle.m1_lang.specs.declared.refusal.M1Refusal.TheVariants as refusal
use Rattle.m1_lang.specs.Definitions.{Cut, Defined, defined_names, Defines, is_value, parts, SourcePart, Plain, plain_words, value_in}
use Rattle.m1_lang.specs.Expansion.{at_once, counted_items, halt_refusal, then_read, words_reading}

-- the parts of a source from an offset on
abbrev pub parts_at : List ℕ → ℕ → List SourcePart
parts_at source at = parts (word_list (words_at source at))

-- the offset of an open quote, from an offset on
abbrev pub open_at : List ℕ → ℕ → Option ℕ
open_at source at = open_quote (words_at source at)

-- the text of the value of each defined word
abbrev pub Values : Type 0
Values = List ℕ → Option (List ℕ)

-- the table of definitions
abbrev pub Definitions : Type 0
Definitions = IndexMap (List ℕ) (List ℕ) NamesKey

-- the values in the table
abbrev pub values_in : Definitions → Values
values_in table text = get bytes_eq table text

-- adding a definition to the table: whether its name was there, and the table afterwards
abbrev pub Enters : {E : Type 0} → Result Bool E → List ℕ → List ℕ → Definitions → Definitions → Type 0
Enters (Ok again) name value old new =
    (again ≡ is_some (values_in old name)) × ((text : List ℕ) → values_in new text ≡ (if bytes_eq name text then Some value else values_in old text))
Enters (Err wanting) name value old new = Unit {0}

abbrev pub or_value : Option (List ℕ) → Option (List ℕ) → Option (List ℕ)
or_value (Some value) later = Some value
or_value None later = later

-- the values of definitions after one more definition
abbrev pub valued_with : Values → ℕ → List ℕ → List ℕ → Result Values M1Refusal
valued_with values at name value =
    if not (is_value value) then Err (refusal.BadDefine at)
    else if is_some (values name) then Err (refusal.DoubleDefine at)
    else Ok (λ text. or_value (values text) (if bytes_eq text name then Some value else None))

abbrev pub with_values : Result Values M1Refusal → (Values → Result Values M1Refusal) → Result Values M1Refusal
with_values (Ok values) rest = rest values
with_values (Err why) rest = Err why

-- the values of the definitions among parts, after those so far, or the first refusal
abbrev pub valued : Values → List SourcePart → Result Values M1Refusal
valued values [] = Ok values
valued values (Defines at name value ∷ rest) = with_values (valued_with values at name value) (λ more. valued more rest)
valued values (Cut at ∷ rest) = Err (refusal.BadDefine at)
valued values (Plain word ∷ rest) = valued values rest

-- definitions as the values that they give
abbrev pub looked_up : Result Defined M1Refusal → Result Values M1Refusal
looked_up (Ok defined) = Ok (value_in defined)
looked_up (Err why) = Err why

-- a quote that is not closed is refused before every definition
abbrev pub unless_quoted : Option ℕ → Result Values M1Refusal → Result Values M1Refusal
unless_quoted (Some at) later = Err (refusal.OpenString at)
unless_quoted None later = later

-- the table has the values of these definitions
abbrev pub Tabulates : Result Definitions M1Refusal → Result Defined M1Refusal → Type 0
Tabulates (Ok table) meant = looked_up meant ≡ Ok (values_in table)
Tabulates (Err refusal.OutOfMemory) meant = Unit {0}
Tabulates (Err why) meant = looked_up meant ≡ Err why

-- the definitions after a `DEFINE` at an offset
abbrev pub after_define : Values → ℕ → List Word → Result Values M1Refusal
after_define values at [] = Err (refusal.BadDefine at)
after_define values at (name ∷ []) = Err (refusal.BadDefine at)
after_define values at (name ∷ value ∷ rest) = with_values (valued_with values at name.text value.text) (λ more. valued more (parts rest))

-- the effect of one definition: `DEFINE` is at `start`, and its name and value follow from `at` on
abbrev pub DefinesOne : Result ℕ M1Refusal → ℕ → List ℕ → ℕ → Definitions → Definitions → Type 0
DefinesOne (Ok after) start source at old new =
    (after_define (values_in old) start (word_list (words_at source at)) ≡ valued (values_in new) (parts_at source after))
    × (open_at source at ≡ open_at source after) × (at < after) × (after ≤ length source)
DefinesOne (Err refusal.OutOfMemory) start source at old new = Unit {0}
DefinesOne (Err why) start source at old new = after_define (values_in old) start (word_list (words_at source at)) ≡ Err why

-- a refusal of a definition, unless a quote is open
abbrev pub quote_or : Option ℕ → M1Refusal → M1Refusal
quote_or (Some offset) why = refusal.OpenString offset
quote_or None why = why

-- the plain words after a `DEFINE`
abbrev pub plain_after : List Word → List Word
plain_after [] = []
plain_after (name ∷ []) = []
plain_after (name ∷ value ∷ rest) = plain_words (parts rest)

-- the names of the definitions after a `DEFINE`
abbrev pub names_after : List Word → List (List ℕ)
names_after [] = []
names_after (name ∷ []) = []
names_after (name ∷ value ∷ rest) = name.text ∷ defined_names (parts rest)

-- names are digested up to an offset. They and those of the definitions from there on are `all`
pub record TookUpTo (names : KeyNames) (source : List ℕ) (at : ℕ) (all : List (List ℕ)) : Type 0 where
  pub seen : List (List ℕ)
  pub took : Took names seen
  pub whole : seen ++ defined_names (parts_at source at) ≡ all

-- taking the name of one definition
abbrev pub TakesName : ℕ → List ℕ → ℕ → KeyNames → KeyNames → Type 0
TakesName after source at old new =
    ((seen : List (List ℕ)) → Took old seen → TookUpTo new source after (seen ++ names_after (word_list (words_at source at))))
    × (at ≤ after) × (after ≤ length source)

-- `after` follows one definition: the plain words from there on are the same
abbrev pub SkipsOne : ℕ → List ℕ → ℕ → Type 0
SkipsOne after source at =
    (plain_after (word_list (words_at source at)) ≡ plain_words (parts_at source after)) × (at ≤ after) × (after ≤ length source)

-- the reading of the words from an offset on, with these values of definitions
abbrev pub reading_at : Values → List ℕ → ℕ → Reading WordFault
reading_at values source at = words_reading values (plain_words (parts_at source at))

-- taking tokens in order: the items so far and those formed later are the whole, or the source is refused
abbrev pub TakesTokens : Result (Option Open) Halt → Option Open → ℕ → List Token → List Item → List Item → Type 0
TakesTokens (Ok next) word at tokens old new =
    (later : Reading WordFault) → with_prefix old (formed word (at_once at tokens later)) ≡ with_prefix new (formed next later)
TakesTokens (Err halt.OutOfMemory) word at tokens old new = Unit {0}
TakesTokens (Err why) word at tokens old new =
    (later : Reading WordFault) → counted_items (with_prefix old (formed word (at_once at tokens later))) ≡ Err (halt_refusal why)

-- taking a word
abbrev pub TakesWord : Result (Option Open) M1Refusal → Option Open → ℕ → Tokens → List Item → List Item → Type 0
TakesWord (Ok next) word at tokens old new =
    (later : Reading WordFault) → with_prefix old (formed word (then_read at tokens later)) ≡ with_prefix new (formed next later)
TakesWord (Err refusal.OutOfMemory) word at tokens old new = Unit {0}
TakesWord (Err why) word at tokens old new = (later : Reading WordFault) → counted_items (with_prefix old (formed word (then_read at tokens later))) ≡ Err why
