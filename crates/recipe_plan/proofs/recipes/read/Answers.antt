use Rattle.std.proofs.Common.{subst}
use Rattle.command_plan.specs.Steps.{Obtains}
use Rattle.recipe_plan.specs.Recipes.{reads_recipe_after}
use Rattle.recipe_plan.proofs.recipes.read.Goals as goal

pub returns : goal.returns
returns c = λ shelf. subst (λ text. Obtains (reads_recipe_after c.args.prefix.now text) shelf shelf c.read_recipe.result) c.as_slice.ensures (c.read_recipe.ensures shelf)
