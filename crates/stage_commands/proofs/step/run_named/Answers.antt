use Rattle.command_plan.proofs.Obtaining.{and_then, stops_before, stops_with}
use Rattle.stage_commands.proofs.step.run_named.Goals as goal

pub returns-in_err-count-clause-obtained : goal.returns-in_err-count-clause-obtained
returns-in_err-count-clause-obtained g c = stops_with c.from_residual.ensures.1 (stops_before (c.in_err-count.ensures.obtained _))

pub returns-clause-obtained : goal.returns-clause-obtained
returns-clause-obtained g c = and_then (c.in_ok-count.ensures.obtained _) c.run_stages.ensures.obtained
