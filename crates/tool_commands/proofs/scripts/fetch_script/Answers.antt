use Rattle.command_plan.proofs.Obtaining.{and_then, stops_before, stops_with}
use Rattle.tool_commands.proofs.scripts.fetch_script.Goals as goal

pub returns-in_err-text : goal.returns-in_err-text
returns-in_err-text g c = stops_with c.from_residual.ensures.1 (stops_before c.in_err-text.ensures.obtained)

pub returns : goal.returns
returns g c = and_then c.in_ok-text.ensures.obtained (c.read_script.ensures _)
