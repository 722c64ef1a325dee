use Rattle.command_plan.proofs.Obtaining.{and_then, stops_before, stops_with}
use Rattle.recipe_plan.proofs.recipes.fetch_recipe_after.Goals as goal

pub returns-in_err-bytes : goal.returns-in_err-bytes
returns-in_err-bytes g c = stops_with c.from_residual.ensures.1 (stops_before c.in_err-bytes.ensures.obtained)

pub returns : goal.returns
returns g c = and_then c.in_ok-bytes.ensures.obtained (c.read.ensures _)
