-- The names that items define. Public source: the languages hex1 and hex2 of stage0-posix and mescc-tools.
use Rattle.std.specs.Prelude.{ℕ, List, [], ◌∷◌, ◌++◌}
use Rattle.hex_langs.specs.declared.items.item.Item.{Item}
use Rattle.hex_langs.specs.declared.items.item.Item.TheVariants.{Label}

-- the label that an item defines
abbrev pub label_in : Item → List (List ℕ)
label_in (Label name) = name ∷ []
label_in it = []

-- the labels that items define, in order
abbrev pub label_names : List Item → List (List ℕ)
label_names [] = []
label_names (it ∷ items) = label_in it ++ label_names items
