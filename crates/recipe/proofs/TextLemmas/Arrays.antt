-- An array, and the values that it is seen as.
use Rattle.std.proofs.Common.{◌≡◌, List, [], ◌∷◌, map, refl, ap}
use Rattle.std.proofs.lemmas.List.{length-map}
use Rattle.toml.specs.View.{view, items_view}
use Rattle.toml.specs.declared.value.Value.{Value}
use Rattle.recipe.specs.Text.Reading.{values_of}

pub values_view : (values : List Value) → values_of (items_view values) ≡ map view values
unfolding values_of
values_view [] = refl
values_view (value ∷ values) = ap (λ more. view value ∷ more) (values_view values)

pub ruleset arrays = (values_view, length-map)
