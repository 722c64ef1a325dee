-- Definitions for the laws of M1.
use Rattle.std.specs.Prelude.{◌≡◌, ℕ, ◌<◌, ◌≤◌, false, true, List, [], ◌∷◌, ◌++◌, map, length, Some, None}
use Rattle.std.specs.List.{AllByRecursion, flat_map}
use Rattle.ddc_base.specs.Limits.{most_source}
use Rattle.hex_langs.specs.Items.Tokens.{is_blank, opens_gap}
use Rattle.m1_lang.specs.Words.Words.{open_quote, Word, word_list, word_more, words_of}
use Rattle.m1_lang.specs.Definitions.{Cut, Defines, SourcePart, parts, Plain}

-- each number is a byte
abbrev pub IsOfBytes : List ℕ → Type 0
IsOfBytes bytes = AllByRecursion (λ byte. byte < 256) bytes

-- the source has at most 67,108,864 bytes, and every quote in it is closed
pub record IsCutIntoWords (source : List ℕ) : Type 0 where
  pub short : length source ≤ most_source
  pub closed : open_quote (words_of source) ≡ None

-- the words of a source without their offsets
abbrev pub texts_in : List ℕ → List (List ℕ)
texts_in source = map (λ (word : Word). word.text) (word_list (words_of source))

-- bytes that are exactly one word
abbrev pub IsOneWord : List ℕ → Type 0
IsOneWord [] = ⊥
IsOneWord (byte ∷ rest) = (opens_gap byte ≡ false) × (word_more byte rest ≡ Some (length rest))

abbrev pub AreBlanks : List ℕ → Type 0
AreBlanks bytes = AllByRecursion (λ byte. is_blank byte ≡ true) bytes

-- words and the blanks after each
abbrev pub Layout : Type 0
Layout = List (List ℕ × List ℕ)

-- each is one word, with at least one blank after it
abbrev pub IsLayout : Layout → Type 0
IsLayout layout = AllByRecursion (λ (laid : List ℕ × List ℕ). IsOneWord laid.0 × (0 < length laid.1) × AreBlanks laid.1) layout

-- the source with this layout
abbrev pub laid_out : Layout → List ℕ
laid_out layout = flat_map (λ (laid : List ℕ × List ℕ). laid.0 ++ laid.1) layout

-- a part without its offset
abbrev pub without_offset : SourcePart → SourcePart
without_offset (Defines at name value) = Defines 0 name value
without_offset (Cut at) = Cut 0
without_offset (Plain word) = Plain (record { at = 0; text = word.text })

-- the definitions and the other words of a source without their offsets
abbrev pub parts_in : List ℕ → List SourcePart
parts_in source = map without_offset (parts (word_list (words_of source)))
