use Rattle.std.proofs.Common.{refl}
use Rattle.command_plan.proofs.Obtaining.{and_then, leads, stops_before, stops_with}
use Rattle.audit_commands.proofs.fetching.fetch_save.Goals as goal

pub returns-in_err-text-clause-obtained : goal.returns-in_err-text-clause-obtained
returns-in_err-text-clause-obtained g c = stops_with c.from_residual.ensures.1 (stops_before c.in_err-text.ensures.obtained)

pub returns-in_err-inputs-clause-obtained : goal.returns-in_err-inputs-clause-obtained
returns-in_err-inputs-clause-obtained g c =
    stops_with c.from_residual-in_err-inputs.ensures.1 (and_then c.in_ok-text.ensures.obtained (stops_before c.in_err-inputs.ensures.obtained))

pub returns-clause-obtained : goal.returns-clause-obtained
returns-clause-obtained g c = and_then c.in_ok-text.ensures.obtained (and_then c.in_ok-inputs.ensures.obtained (leads _ _ _ (λ next. refl)))
