use Rattle.command_plan.proofs.Obtaining.{stops_with, wants_at_once}
use Rattle.command_plan.proofs.lists.read.Goals as goal

pub returns-in_err-items-clause-obtained : goal.returns-in_err-items-clause-obtained
returns-in_err-items-clause-obtained g c = λ shelf. stops_with c.from_residual.ensures.1 (wants_at_once _ shelf)
