use Rattle.command_plan.proofs.Obtaining.{stops_with, wants_at_once}
use Rattle.stage_commands.proofs.earlier.run_before.Goals as goal

pub returns-in_err-done-clause-obtained : goal.returns-in_err-done-clause-obtained
returns-in_err-done-clause-obtained c = λ shelf. stops_with c.from_residual.ensures.1 (wants_at_once _ shelf)
