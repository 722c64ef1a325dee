use Rattle.command_plan.proofs.Obtaining.{and_then, stops_before, stops_with}
use Rattle.stage_commands.proofs.ready.run_apart.Goals as goal

pub returns-in_err-count-clause-obtained : goal.returns-in_err-count-clause-obtained
returns-in_err-count-clause-obtained g c = stops_with c.from_residual.ensures.1 (stops_before (c.in_err-count.ensures.obtained _))

pub returns-in_err-names_apart-clause-obtained : goal.returns-in_err-names_apart-clause-obtained
returns-in_err-names_apart-clause-obtained g c =
    stops_with c.from_residual-in_err-names_apart.ensures.1 (and_then (c.in_ok-count.ensures.obtained _) (stops_before (c.in_err-names_apart.ensures _)))

pub returns-clause-obtained : goal.returns-clause-obtained
returns-clause-obtained g c = and_then (c.in_ok-count.ensures.obtained _) (and_then (c.in_ok-names_apart.ensures _) c.run_stages.ensures.obtained)
