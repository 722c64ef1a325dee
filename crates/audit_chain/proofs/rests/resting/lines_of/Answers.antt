use Rattle.std.proofs.Common.{◌++◌, [], None, Some, cond, ap, ap₂, ◌∙◌}
use Rattle.std.specs.List.{cons_option}
use Rattle.wheeler.specs.Routes.{about}
use Rattle.audit_chain.specs.Rests.Walk.{runs_meet}
use Rattle.audit_chain.proofs.RestsLemmas.Tests.{kept_more}
use Rattle.audit_chain.proofs.rests.resting.lines_of.Goals as goal

pub loop-line-preserved : goal.loop-line-preserved
loop-line-preserved c =
    c.in_ok-push_line.ensures
    ∙ ap₂ (λ l b. l ++ cons_option (cond b (Some c.line-item.result) None) []) c.loop-line.invariant
    (c.runs_meet.ensures ∙ ap (runs_meet c.args.parts.now) c.about.ensures)
    ∙ kept_more (λ line. runs_meet c.args.parts.now (about line)) c.args.whole.now c.loop-line.line-index c.line-item.result c.loop-line-test.true c.line-item.is
