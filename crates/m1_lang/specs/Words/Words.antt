-- The words of an M1 source. Public source: the language M1 of stage0-posix and mescc-tools, whose exact rules here are this project's
-- profile. docs/reference/m1.md says the same for people.
use Rattle.std.specs.Prelude.{ℕ, zero, suc, ◌+◌, ◌-◌, ◌==◌, nat_lt, Bool, ◌||◌, if◌then◌else◌, List, [], ◌∷◌, length, take, Option, Some, None}
use Rattle.std.specs.List.{position_or_len}
use Rattle.hex_langs.specs.Items.Tokens.{gap_length, is_blank, opens_gap}

-- a word and its offset
pub record Word : Type 0 where
  pub at : ℕ
  pub text : List ℕ

-- the words of a source, up to its end or to the first quote that is not closed
pub data Words : Type 0 where
  NoWord : Words
  Unclosed : (at : ℕ) → Words
  Found : (word : Word) (later : Words) → Words

-- `"` and `'`
abbrev pub is_quote : ℕ → Bool
is_quote byte = byte == 34 || byte == 39

-- up to the next quote of the same kind, which belongs to the word
abbrev pub until_closed : ℕ → List ℕ → Option ℕ
until_closed size remaining = if nat_lt size (length remaining) then Some (size + 1) else None

-- the number of bytes of a word after its first. A quoted word includes blanks; every other word ends before a blank or at the end.
-- `None`: its quote is not closed
unfoldable pub word_more : ℕ → List ℕ → Option ℕ
word_more byte remaining =
    if is_quote byte then until_closed (position_or_len (λ b. b == byte) remaining) remaining
    else Some (position_or_len is_blank remaining)

-- the words from offset `at` on; the first `inside` bytes belong to a word, blanks or comments already read
unfoldable pub words_from : ℕ → ℕ → List ℕ → Words
words_from at inside [] = NoWord
words_from at (suc inside) (byte ∷ remaining) = words_from (at + 1) inside remaining
words_from at zero (byte ∷ remaining) =
    if opens_gap byte then words_from (at + 1) (gap_length (byte ∷ remaining) - 1) remaining
    else elim (word_more byte remaining) [
      | Some more ↦ Found (record { at = at; text = byte ∷ take more remaining }) (words_from (at + 1) more remaining)
      | None ↦ Unclosed at
    ]

-- the words of a source
abbrev pub words_of : List ℕ → Words
words_of source = words_from 0 0 source

-- the words before the end, or before the open quote
abbrev pub word_list : Words → List Word
word_list NoWord = []
word_list (Unclosed at) = []
word_list (Found word later) = word ∷ word_list later

-- the offset of an open quote
abbrev pub open_quote : Words → Option ℕ
open_quote NoWord = None
open_quote (Unclosed at) = Some at
open_quote (Found word later) = open_quote later
