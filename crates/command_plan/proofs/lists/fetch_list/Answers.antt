use Rattle.std.proofs.lemmas.Result.{IfOk-weaker}
use Rattle.command_plan.specs.Lists.{IsListed}
use Rattle.command_plan.proofs.Obtaining.{and_then, stops_before, stops_with}
use Rattle.command_plan.proofs.lists.fetch_list.Goals as goal

pub returns-in_err-text-clause-obtained : goal.returns-in_err-text-clause-obtained
returns-in_err-text-clause-obtained g c = stops_with c.from_residual.ensures.1 (stops_before c.in_err-text.ensures.obtained)

pub returns-clause-obtained : goal.returns-clause-obtained
returns-clause-obtained g c = and_then c.in_ok-text.ensures.obtained (c.read.ensures.obtained _)

pub returns-clause-listed : goal.returns-clause-listed
returns-clause-listed g c = IfOk-weaker c.read.result _ (IsListed g.T.Listed.form c.args.most) (λ items is. (c.in_ok-text.text, is)) c.read.ensures.value
