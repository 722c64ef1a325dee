use Rattle.command_plan.proofs.Obtaining.{and_then, stops_before, stops_with}
use Rattle.audit_commands.proofs.fetching.both_apart.Goals as goal

pub returns-in_err-apart : goal.returns-in_err-apart
returns-in_err-apart c = λ shelf. stops_with c.from_residual.ensures.1 (stops_before (c.in_err-apart.ensures shelf))

pub returns : goal.returns
returns c = λ shelf. and_then (c.in_ok-apart.ensures shelf) (c.apart-2.ensures shelf)
