-- What the line and the column of a byte are, in terms of the text, and which refusals have a byte offset. docs/reference/command-line.md says the same
-- for people.
use Rattle.std.specs.Prelude.{◌≡◌, ℕ, Bool, true, not, ◌+◌, ◌⊎◌, List, [], ◌∷◌, ◌++◌, All, count_by, length}
use Rattle.ddc_base.specs.declared.languages.Language.{Language}
use Rattle.ddc_base.specs.declared.languages.Language.TheVariants.{Hex0, Hex1, Hex2, M1}
use Rattle.command_plan.specs.Lists.{is_line_feed}
use Rattle.tool_commands.specs.declared.offsets.Spot.{Spot}
use Rattle.tool_commands.specs.Where.{is_of_item}

-- the line and the column of the byte that follows these bytes. `begun` is what its line has before it: it has no line feed, and it begins the text or
-- follows a line feed. The line is one more than the line feeds before the byte, and the column one more than the bytes of `begun`.
pub record IsSpotAfter (prefix : List ℕ) (spot : Spot) : Type 0 where
  pub lines : List ℕ
  pub begun : List ℕ
  pub cut : prefix ≡ lines ++ begun
  pub follows : (lines ≡ []) ⊎ ((earlier : List ℕ) × (lines ≡ earlier ++ 10 ∷ []))
  pub unbroken : All (λ byte. byte ≡ 10 → ⊥) begun
  pub line_is : spot.line ≡ count_by is_line_feed prefix + 1
  pub column_is : spot.column ≡ length begun + 1

-- a refusal of this number, from 1 to 6, holds a byte offset: each of hex0 and M1, and of hex1 and hex2 each that holds no item
abbrev pub holds_offset : Language → ℕ → Bool
holds_offset Hex0 number = true
holds_offset Hex1 number = not (is_of_item number)
holds_offset Hex2 number = not (is_of_item number)
holds_offset M1 number = true
