-- A source of hex1 or hex2 read from left to right: its tokens, their items, and the first refusal. Public source: the languages of these
-- names of stage0-posix and mescc-tools, whose exact rules here are this project's profile. docs/reference/hex1.md and hex2.md say the
-- same for people.
use Rattle.std.specs.Prelude.{◌≡◌, ℕ, zero, suc, ◌+◌, ◌-◌, nat_lt, if◌then◌else◌, List, [], ◌∷◌, ◌++◌, length, Option, Some, None, Result, Ok, Err}
use Rattle.ddc_base.specs.Limits.{most_items, most_source}
use Rattle.hex_langs.specs.declared.items.item.Item.{Item}
use Rattle.hex_langs.specs.declared.items.token.Dialect.{Dialect}
use Rattle.hex_langs.specs.declared.items.token.TokenFault.{TokenFault}
use Rattle.hex_langs.specs.declared.items.token.TokenFault.TheVariants as fault
use Rattle.hex_langs.specs.declared.items.token.Token.{Token}
use Rattle.hex_langs.specs.declared.items.words.Open.{Open}
use Rattle.hex_langs.specs.declared.items.words.Halt.{Halt}
use Rattle.hex_langs.specs.declared.items.words.Halt.TheVariants as halt
use Rattle.hex_langs.specs.declared.items.reader.HexRefusal.{HexRefusal}
use Rattle.hex_langs.specs.declared.items.reader.HexRefusal.TheVariants.{OddDigits, BadField, Dangling, TooLong, OutOfMemory}
use Rattle.hex_langs.specs.Items.Tokens.{opens_gap, gap_length, token_at}
use Rattle.hex_langs.specs.Items.Words.{taken, Step}

-- the tokens of a source with their offsets, up to its end or the first offset without a token
pub data Reading (F : Type 0) : Type 0 where
  NoToken : Reading F
  Faulty : (why : F) (at : ℕ) → Reading F
  Then : (at : ℕ) (token : Token) (later : Reading F) → Reading F

-- the tokens from offset `at` on; the first `inside` bytes belong to a token or gap that is already read
unfoldable pub reading : Dialect → ℕ → ℕ → List ℕ → Reading TokenFault
reading dialect at inside [] = NoToken
reading dialect at (suc inside) (byte ∷ remaining) = reading dialect (at + 1) inside remaining
reading dialect at zero (byte ∷ remaining) =
    if opens_gap byte then reading dialect (at + 1) (gap_length (byte ∷ remaining) - 1) remaining
    else elim (token_at dialect byte remaining) [
      | Ok found ↦ Then at found.0 (reading dialect (at + 1) found.1 remaining)
      | Err why ↦ Faulty why at
    ]

-- how the items end: complete, at a token that is not taken, or at an offset without a token
pub data Ending (F : Type 0) : Type 0 where
  Whole : Ending F
  Halted : Halt → Ending F
  Faulted : F → ℕ → Ending F

-- the items up to the end or the first refusal
pub record Formed (F : Type 0) : Type 0 where
  pub items : List Item
  pub end : Ending F

abbrev pub with_prefix : {F : Type 0} → List Item → Formed F → Formed F
with_prefix prefix formed = record { items = prefix ++ formed.items; end = formed.end }

-- a word that is open at the end is not complete
abbrev pub word_end : {F : Type 0} → Option Open → Ending F
word_end None = Whole
word_end (Some word) = Halted (halt.Dangling word.first)

-- the items that a step forms, and those of the rest; after a refusal, no more
abbrev pub after_step : {F : Type 0} → Step → (Option Open → Formed F) → Formed F
after_step (Ok step) rest = with_prefix step.0 (rest step.1)
after_step (Err why) rest = record { items = []; end = Halted why }

-- the items of tokens, with or without an open word before them
abbrev pub formed : {F : Type 0} → Option Open → Reading F → Formed F
formed word NoToken = record { items = []; end = word_end word }
formed word (Faulty why at) = record { items = []; end = Faulted why at }
formed word (Then at token later) = after_step (taken word at token) (λ next. formed next later)

-- the refusal of a token that is not taken, and of an offset without a token
abbrev pub halted : Halt → HexRefusal
halted (halt.Dangling first) = Dangling first
halted (halt.Second at) = BadField at
halted halt.TooLong = TooLong
halted halt.OutOfMemory = OutOfMemory

abbrev pub fault_at : TokenFault → ℕ → HexRefusal
fault_at fault.OddDigits at = OddDigits at
fault_at fault.BadField at = BadField at

abbrev pub answer : List Item → Ending TokenFault → Result (List Item) HexRefusal
answer items Whole = Ok items
answer items (Halted why) = Err (halted why)
answer items (Faulted why at) = Err (fault_at why at)

-- `TooLong` if the items before the end or the first refusal are more than 33,554,432
abbrev pub limited_items : Formed TokenFault → Result (List Item) HexRefusal
limited_items formed = if nat_lt most_items (length formed.items) then Err TooLong else answer formed.items formed.end

-- the items of a source, or its first refusal
unfoldable pub items_of : Dialect → List ℕ → Result (List Item) HexRefusal
items_of dialect source =
    if nat_lt most_source (length source) then Err TooLong
    else limited_items (formed None (reading dialect 0 0 source))

-- the answer of a reader: this result, or out of memory
abbrev pub ReadsItems : Result (List Item) HexRefusal → Result (List Item) HexRefusal → Type 0
ReadsItems meant (Err OutOfMemory) = Unit {0}
ReadsItems meant result = meant ≡ result
