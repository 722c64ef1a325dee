-- Items whose lines are read back as the same items.
use Rattle.std.specs.Prelude.{◌≡◌, ℕ, ◌<◌, ◌^◌, false, List, length}
use Rattle.std.specs.List.{AllByRecursion, list_any}
use Rattle.hex_langs.specs.declared.items.item.Item.{Item}
use Rattle.hex_langs.specs.declared.items.item.Item.TheVariants.{Byte, Label, Word, Rel, Gap, Abs, Pad}
use Rattle.hex_langs.specs.Items.Tokens.{ends_name}

-- at least one byte, no blank and no `>`
pub record IsHexName (name : List ℕ) : Type 0 where
  pub some : 0 < length name
  pub whole : list_any ends_name name ≡ false

-- an item's numbers fit, and its names are names of hex2
abbrev pub IsWritable : Item → Type 0
IsWritable (Byte byte) = byte < 256
IsWritable (Label name) = IsHexName name
IsWritable (Word value kind name) = (value < 2 ^ 32) × IsHexName name
IsWritable (Rel name) = IsHexName name
IsWritable (Gap name other) = IsHexName name × IsHexName other
IsWritable (Abs name) = IsHexName name
IsWritable Pad = Unit {0}

abbrev pub AreWritable : List Item → Type 0
AreWritable items = AllByRecursion IsWritable items
