-- The place of a refusal in a source: line, column and word of a byte offset, and the byte offset of an item.
-- docs/reference/command-line.md says the same for people.
use Rattle.std.specs.Prelude.{◌≡◌, ℕ, ◌+◌, ◌==◌, nat_lt, if◌then◌else◌, Option, None, Some, Result, Ok, Err, List, length, take}
use Rattle.std.specs.List.{fold, position_or_len}
use Rattle.ddc_base.specs.Limits.{most_items}
use Rattle.hex_langs.specs.declared.items.token.Dialect.{Dialect}
use Rattle.hex_langs.specs.declared.items.token.TokenFault.{TokenFault}
use Rattle.hex_langs.specs.declared.items.words.Halt.{Halt}
use Rattle.hex_langs.specs.declared.items.words.Halt.TheVariants as halt
use Rattle.hex_langs.specs.declared.items.words.Open.{Open}
use Rattle.hex_langs.specs.Items.Reading.{Reading, NoToken, Faulty, Then, reading}
use Rattle.hex_langs.specs.Items.Tokens.{is_blank}
use Rattle.hex_langs.specs.Items.Words.{Step, taken}
use Rattle.tool_commands.specs.declared.offsets.Spot.{Spot}

-- ---- a byte offset in a text

-- the line and the column, both from 1, after one more byte
abbrev pub after_byte : Spot → ℕ → Spot
after_byte spot byte = if byte == 10 then record { line = spot.line + 1; column = 1 } else record { line = spot.line; column = spot.column + 1 }

-- the line and the column after these bytes
abbrev pub spot_after : List ℕ → Spot
spot_after prefix = fold after_byte (record { line = 1; column = 1 }) prefix

-- the word at the front: its bytes up to the next blank or the end
abbrev pub leading_word : List ℕ → List ℕ
leading_word rest = take (position_or_len is_blank rest) rest

-- ---- the byte offset of an item of a hex1 or hex2 source

-- the offset of a token, or that of the first token of the word that is open
abbrev pub first_offset : Option Open → ℕ → ℕ
first_offset None at = at
first_offset (Some word) at = word.first

-- where the item of an index, from 0, is: among those that a step forms after `done` items, or later
abbrev pub offset_within : ℕ → ℕ → ℕ → Step → (ℕ → Option Open → Option ℕ) → Option ℕ
offset_within index done offset (Err why) later = None
offset_within index done offset (Ok step) later =
    if nat_lt most_items (done + length step.0) then None
    else (if nat_lt index (done + length step.0) then Some offset
    else later (done + length step.0) step.1)

abbrev pub item_offset : ℕ → ℕ → Option Open → Reading TokenFault → Option ℕ
item_offset index done word NoToken = None
item_offset index done word (Faulty why at) = None
item_offset index done word (Then at token later) =
    offset_within index done (first_offset word at) (taken word at token) (λ more next. item_offset index more next later)

-- the offset of the token that forms the item of this index, or of the first field or reference of its word
unfoldable pub offset_of_item : Dialect → List ℕ → ℕ → Option ℕ
offset_of_item dialect source index = item_offset index 0 None (reading dialect 0 0 source)

-- the result of a scan that halted: no offset, or out of memory
abbrev pub IsStopped : {E : Type 0} → Halt → Result (Option ℕ) E → Type 0
IsStopped halt.OutOfMemory (Err want) = Unit {0}
IsStopped halt.OutOfMemory (Ok offset) = ⊥
IsStopped why (Err want) = ⊥
IsStopped why (Ok offset) = offset ≡ None
