-- The answers of functions that try one form of a word, and what a value keeps of its text. To read the promises, this file is not needed.
use Rattle.std.specs.Prelude.{◌≡◌, ℕ, List, [], ◌∷◌, Option, Some, None, Result, Ok, Err}
use Rattle.hex_langs.specs.declared.items.token.Token.TheVariants.{Field}
use Rattle.m1_lang.specs.declared.words.meaning.WordMeaning.{WordMeaning}
use Rattle.m1_lang.specs.declared.words.meaning.WordFault.{WordFault}
use Rattle.m1_lang.specs.Words.Forms.{FormTokens, value_tokens}
use Rattle.m1_lang.specs.Words.Meanings.{meaning_tokens}

abbrev pub MeansForm : Option (Result WordMeaning WordFault) → FormTokens → Type 0
MeansForm (Some (Ok meaning)) form = form ≡ Some (Ok (meaning_tokens meaning))
MeansForm (Some (Err why)) form = form ≡ Some (Err why)
MeansForm None form = form ≡ None

-- a field that was read from a value, or none
abbrev pub IsFieldOf : List ℕ → Option ℕ → Type 0
IsFieldOf text (Some mask) = value_tokens text ≡ Some (Field mask ∷ [])
IsFieldOf text None = Unit {0}
