-- Definitions for the laws of linking.
use Rattle.std.specs.Prelude.{◌≡◌, ℕ, ◌+◌, Bool, true, false, List, [], ◌∷◌}
use Rattle.hex_langs.specs.declared.items.item.Item.{Item}
use Rattle.hex_langs.specs.declared.items.item.Item.TheVariants.{Byte, Label, Word, Rel, Gap, Abs, Pad}
use Rattle.hex_langs.specs.Link.Link.{size_at}

-- an item that is neither a reference nor a pad
abbrev pub is_fixed : Item → Bool
is_fixed (Byte byte) = true
is_fixed (Label name) = true
is_fixed it = false

-- the address after the last of the items, the first of which is at `address`
abbrev pub address_after : ℕ → List Item → ℕ
address_after address [] = address
address_after address (it ∷ items) = address_after (address + size_at address it) items

-- an item with other names
abbrev pub renamed : (List ℕ → List ℕ) → Item → Item
renamed rename (Byte byte) = Byte byte
renamed rename (Label x) = Label (rename x)
renamed rename (Word value kind x) = Word value kind (rename x)
renamed rename (Rel x) = Rel (rename x)
renamed rename (Gap x y) = Gap (rename x) (rename y)
renamed rename (Abs x) = Abs (rename x)
renamed rename Pad = Pad

-- different names stay different
abbrev pub KeepsApart : (List ℕ → List ℕ) → Type 0
KeepsApart rename = (a b : List ℕ) → rename a ≡ rename b → a ≡ b
