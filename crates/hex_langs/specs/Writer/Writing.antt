-- Items as a text of hex2 (of stage0-posix and mescc-tools), one line for each. docs/reference/m1.md says the same for people.
use Rattle.std.specs.Prelude.{ℕ, List, [], ◌∷◌, ◌++◌}
use Rattle.std.specs.List.{flat_map}
use Rattle.std.specs.Int.{w32, to_le_bytes}
use Rattle.hex.specs.Hex.{encode_upper}
use Rattle.hex_langs.specs.declared.items.item.Kind.{Kind}
use Rattle.hex_langs.specs.declared.items.item.Kind.TheVariants.{I, B, J, U}
use Rattle.hex_langs.specs.declared.items.item.Item.{Item}
use Rattle.hex_langs.specs.declared.items.item.Item.TheVariants.{Byte, Label, Word, Rel, Gap, Abs, Pad}

-- the sign of a kind: `!` `@` `$` `~`
abbrev pub kind_sign : Kind → ℕ
kind_sign I = 33
kind_sign B = 64
kind_sign J = 36
kind_sign U = 126

-- the line of an item, ended by LF (10). A byte is two upper-case digits; the others are `:name`, `%name`, `%name>other`, `&name` and
-- `<`. A word is its sign and name, a blank (32), and its four bytes as eight upper-case digits, the low byte first
abbrev pub item_line : Item → List ℕ
item_line (Byte byte) = encode_upper (byte ∷ []) ++ 10 ∷ []
item_line (Label name) = 58 ∷ (name ++ 10 ∷ [])
item_line (Word value kind name) = kind_sign kind ∷ (name ++ 32 ∷ (encode_upper (to_le_bytes w32 value) ++ 10 ∷ []))
item_line (Rel name) = 37 ∷ (name ++ 10 ∷ [])
item_line (Gap name other) = 37 ∷ (name ++ 62 ∷ (other ++ 10 ∷ []))
item_line (Abs name) = 38 ∷ (name ++ 10 ∷ [])
item_line Pad = 60 ∷ 10 ∷ []

-- the text of items
unfoldable pub items_text : List Item → List ℕ
items_text items = flat_map item_line items
