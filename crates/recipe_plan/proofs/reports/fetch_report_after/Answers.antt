use Rattle.command_plan.proofs.Obtaining.{and_then, stops_before, stops_with}
use Rattle.recipe_plan.proofs.reports.fetch_report_after.Goals as goal

pub returns-in_err-bytes-clause-obtained : goal.returns-in_err-bytes-clause-obtained
returns-in_err-bytes-clause-obtained g c = stops_with c.from_residual.ensures.1 (stops_before c.in_err-bytes.ensures.obtained)

pub returns-clause-obtained : goal.returns-clause-obtained
returns-clause-obtained g c = and_then c.in_ok-bytes.ensures.obtained (c.read.ensures.obtained _)
