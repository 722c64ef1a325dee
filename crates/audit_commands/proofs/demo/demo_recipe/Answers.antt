use Rattle.std.proofs.Common.{◌∙◌, subst}
use Rattle.command_plan.specs.Steps.{Obtains}
use Rattle.recipe_plan.specs.Recipes.{reads_recipe}
use Rattle.audit_commands.proofs.demo.demo_recipe.Goals as goal

pub returns : goal.returns
returns c = λ shelf. subst (λ text. Obtains (reads_recipe text) shelf shelf c.read_recipe.result) (c.as_bytes.ensures.value ∙ c.recipe_text.ensures) (c.read_recipe.ensures shelf)
