-- Items in the order of rising numbers.
use Rattle.std.specs.Prelude.{ℕ, zero, suc, ◌+◌, ◌==◌, Option, None, Some, List, [], ◌∷◌, find}

-- the item with a number
abbrev pub item_numbered : {A : Type 0} → (A → ℕ) → List A → ℕ → Option A
item_numbered of items number = find (λ x. of x == number) items

abbrev pub with_item : {A : Type 0} → Option A → List A → List A
with_item None xs = xs
with_item (Some x) xs = x ∷ xs

-- the items that a function gives for `count` numbers from one on
unfoldable pub items_from : {A : Type 0} → (ℕ → Option A) → ℕ → ℕ → List A
items_from item number zero = []
items_from item number (suc count) = with_item (item number) (items_from item (number + 1) count)
