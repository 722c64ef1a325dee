use Rattle.recipe.proofs.Keeps.{reads_keep}
use Rattle.recipe.proofs.laws.a_recipe_that_reads_keeps_the_rules.Goals as goal

pub returns : goal.returns
returns c = reads_keep
