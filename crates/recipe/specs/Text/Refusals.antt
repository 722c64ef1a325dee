-- The refusals of a recipe, numbered from 1, and the table and key of each (docs/reference/recipe.md, "Refusals").
use Rattle.std.specs.Prelude.{ℕ, Option, Some, None}
use Rattle.recipe.specs.declared.text.keys.Key.{Key}
use Rattle.recipe.specs.declared.text.keys.Place.{Place}
use Rattle.recipe.specs.declared.text.refusal.RecipeRefusal.{RecipeRefusal}
use Rattle.recipe.specs.declared.text.refusal.RecipeRefusal.TheVariants.{NotToml, Missing, Unknown, BadName, DoubleName, NotMadeYet, BadPath, BadNumber, TooMany, OutOfMemory}

abbrev pub recipe_refusal_number : RecipeRefusal → ℕ
recipe_refusal_number NotToml = 1
recipe_refusal_number (Missing place key) = 2
recipe_refusal_number (Unknown place) = 3
recipe_refusal_number (BadName place key) = 4
recipe_refusal_number (DoubleName place key) = 5
recipe_refusal_number (NotMadeYet place key) = 6
recipe_refusal_number (BadPath place key) = 7
recipe_refusal_number (BadNumber place key) = 8
recipe_refusal_number (TooMany place key) = 9
recipe_refusal_number OutOfMemory = 10

-- the refused table
abbrev pub recipe_refusal_place : RecipeRefusal → Option Place
recipe_refusal_place NotToml = None
recipe_refusal_place (Missing place key) = Some place
recipe_refusal_place (Unknown place) = Some place
recipe_refusal_place (BadName place key) = Some place
recipe_refusal_place (DoubleName place key) = Some place
recipe_refusal_place (NotMadeYet place key) = Some place
recipe_refusal_place (BadPath place key) = Some place
recipe_refusal_place (BadNumber place key) = Some place
recipe_refusal_place (TooMany place key) = Some place
recipe_refusal_place OutOfMemory = None

-- the refused key
abbrev pub refusal_key : RecipeRefusal → Option Key
refusal_key NotToml = None
refusal_key (Missing place key) = Some key
refusal_key (Unknown place) = None
refusal_key (BadName place key) = Some key
refusal_key (DoubleName place key) = Some key
refusal_key (NotMadeYet place key) = Some key
refusal_key (BadPath place key) = Some key
refusal_key (BadNumber place key) = Some key
refusal_key (TooMany place key) = Some key
refusal_key OutOfMemory = None
