-- The present stage is one of the recipe, and its steps are not spent: what a position's answer rests on.
use Rattle.std.proofs.Common.{◌≡◌, ◌<◌, List, ◌∷◌}
use Rattle.recipe.specs.declared.contents.RecipeContents.{RecipeContents}
use Rattle.recipe.specs.declared.parts.Stage.{Stage}
use Rattle.audit_rules.specs.Positions.{Position, todo}

pub record IsHere (recipe : RecipeContents) (p : Position) (stage : Stage) (stages : List Stage) : Type 0 where
  pub left : todo recipe p.done ≡ stage ∷ stages
  pub within : p.at.steps < stage.steps
