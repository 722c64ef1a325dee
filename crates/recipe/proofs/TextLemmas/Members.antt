-- The keys of a map, and the members that it is seen as.
use Rattle.std.proofs.Common.{◌≡◌, List, [], ◌∷◌, String, Global, string_bytes, refl, ap}
use Rattle.std.specs.Prelude.{◌&&◌}
use Rattle.std.specs.List.{list_all}
use Rattle.std.specs.Map.{keys_of}
use Rattle.toml.specs.View.{members_view}
use Rattle.toml.specs.declared.value.Value.{Value}
use Rattle.recipe.specs.declared.text.keys.Key.{Key}
use Rattle.recipe.specs.Text.Keys.{is_known_key, are_listed}

pub listed_members : (keys : List Key) (es : List (String Global × Value)) → list_all (λ k. is_known_key keys (string_bytes k)) (keys_of es) ≡ are_listed keys (members_view es)
listed_members keys [] = refl
listed_members keys (e ∷ es) = ap (λ b. is_known_key keys (string_bytes e.0) && b) (listed_members keys es)
