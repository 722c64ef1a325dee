use Rattle.std.proofs.Common.{◌≤◌, Ok}
use Rattle.ddc_base.specs.Outside.{ShelfState}
use Rattle.ddc_base.specs.Limits.{most_states}
use Rattle.command_plan.specs.Steps.{Obtains}
use Rattle.recipe_plan.specs.Recipes.{needs_apart}
use Rattle.stage_commands.specs.Names.{each_name}
use Rattle.stage_commands.proofs.names.names_apart.Given as goal

abbrev pub invariant-loop-number : goal.invariant-loop-number
invariant-loop-number l = (l.number ≤ most_states) × ((shelf : ShelfState) → Obtains (each_name (needs_apart l.recipe) l.prefix l.number) shelf shelf (Ok tt))
