-- The printed lines about recipes and comparisons. docs/reference/command-line.md says the same for people.
use Rattle.std.specs.Prelude.{ℕ, List, [], ◌∷◌, Option, Some, None, codes, decimal}
use Rattle.std.specs.List.{flat_map}
use Rattle.ddc_base.specs.Lines.{line}
use Rattle.recipe.specs.Text.Keys.{key_word, table_word}
use Rattle.recipe.specs.Text.Refusals.{recipe_refusal_number, recipe_refusal_place, refusal_key}
use Rattle.recipe.specs.declared.text.keys.Key.{Key}
use Rattle.recipe.specs.declared.text.keys.Place.{Place}
use Rattle.recipe.specs.declared.text.refusal.RecipeRefusal.{RecipeRefusal}
use Rattle.report.specs.declared.types.CompareLine.{CompareLine}
use Rattle.report.specs.declared.types.Compared.{Compared}
use Rattle.report.specs.declared.types.Compared.TheVariants.{Equal, Differs}

-- where a recipe is refused: the table, its number, and the key, as far as the refusal has them
abbrev pub place_words : Option Place → Option Key → List (List ℕ)
place_words None key = []
place_words (Some place) None = table_word place.table ∷ decimal place.number ∷ []
place_words (Some place) (Some key) = table_word place.table ∷ decimal place.number ∷ key_word key ∷ []

-- the line about a file that is not a recipe
unfoldable pub recipe_line : RecipeRefusal → List ℕ
recipe_line refusal =
    line (codes "recipe" ∷ codes "refused" ∷ decimal (recipe_refusal_number refusal) ∷ place_words (recipe_refusal_place refusal) (refusal_key refusal))

-- how a compared artefact and the binary compare
abbrev pub comparison_words : List ℕ → List ℕ → Compared → List (List ℕ)
comparison_words stage binary (Equal size) = codes "equal" ∷ stage ∷ binary ∷ decimal size ∷ []
comparison_words stage binary (Differs offset made given) =
    codes "differs" ∷ stage ∷ binary ∷ decimal offset ∷ decimal made ∷ decimal given ∷ []

unfoldable pub compared_line : CompareLine → List ℕ
compared_line compare = line (comparison_words compare.stage compare.binary compare.result)

-- a line for each comparison, in order
unfoldable pub compared_lines : List CompareLine → List ℕ
compared_lines lines = flat_map compared_line lines
