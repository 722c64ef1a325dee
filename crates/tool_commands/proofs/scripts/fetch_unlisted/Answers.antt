use Rattle.std.proofs.Common.{refl}
use Rattle.command_plan.proofs.Obtaining.{and_then, leads, stops_before, stops_with}
use Rattle.tool_commands.proofs.scripts.fetch_unlisted.Goals as goal

pub returns-in_err-words-clause-obtained : goal.returns-in_err-words-clause-obtained
returns-in_err-words-clause-obtained g c = stops_with c.from_residual.ensures.1 (stops_before c.in_err-words.ensures.obtained)

pub returns-in_err-unlisted-clause-obtained : goal.returns-in_err-unlisted-clause-obtained
returns-in_err-unlisted-clause-obtained g c =
    stops_with c.from_residual-in_err-unlisted.ensures.1 (and_then c.in_ok-words.ensures.obtained (stops_before (c.in_err-unlisted.ensures _)))

pub returns-clause-obtained : goal.returns-clause-obtained
returns-clause-obtained g c = and_then c.in_ok-words.ensures.obtained (and_then (c.in_ok-unlisted.ensures _) (leads _ _ _ (λ next. refl)))
