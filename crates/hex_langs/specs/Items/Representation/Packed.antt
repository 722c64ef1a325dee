-- Items as codes: a code below 256 is a byte; a higher code, minus 256, is the index of another item.
-- To read the promises, this file is not needed.
use Rattle.std.specs.Prelude.{◌≡◌, ℕ, ◌+◌, ◌-◌, ◌<◌, ◌≤◌, nat_lt, Bool, if◌then◌else◌, List, length, map, slice_index_or}
use Rattle.std.specs.List.{AllByRecursion}
use Rattle.ddc_base.specs.Limits.{most_items}
use Rattle.hex_langs.specs.declared.items.item.Item.{Item}
use Rattle.hex_langs.specs.declared.items.item.Item.TheVariants.{Byte, Pad}
use Rattle.hex_langs.specs.Items.Labels.{label_names}

abbrev pub item_of : List Item → ℕ → Item
item_of others code = if nat_lt code 256 then Byte code else slice_index_or others (code - 256) Pad

unfoldable pub items_of : List ℕ → List Item → List Item
items_of codes others = map (item_of others) codes

abbrev pub is_known : List Item → ℕ → Bool
is_known others code = nat_lt code (256 + length others)

pub record ArePacked (codes : List ℕ) (others : List Item) : Type 0 where
  pub few : length codes ≤ most_items
  pub fewer : length others ≤ length codes
  pub known : AllByRecursion (λ code. code < 256 + length others) codes
  pub labels : label_names others ≡ label_names (items_of codes others)
