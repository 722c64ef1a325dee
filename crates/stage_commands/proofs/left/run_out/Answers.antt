use Rattle.command_plan.proofs.Performing.{wants_memory}
use Rattle.stage_commands.proofs.left.run_out.Goals as goal

pub returns : goal.returns
returns g c = wants_memory _ _
