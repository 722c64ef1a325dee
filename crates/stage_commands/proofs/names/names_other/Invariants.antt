use Rattle.std.proofs.Common.{◌≤◌, Ok}
use Rattle.ddc_base.specs.Outside.{ShelfState}
use Rattle.ddc_base.specs.Limits.{most_states}
use Rattle.command_plan.specs.Steps.{Obtains}
use Rattle.stage_commands.specs.Names.{each_name, needs_other}
use Rattle.stage_commands.proofs.names.names_other.Given as goal

abbrev pub invariant-loop-number : goal.invariant-loop-number
invariant-loop-number l = (l.number ≤ most_states) × ((shelf : ShelfState) → Obtains (each_name (needs_other l.file) l.prefix l.number) shelf shelf (Ok tt))
