use Rattle.std.proofs.Common.{◌++◌, [], None, Some, cond, ap₂, ◌∙◌}
use Rattle.std.specs.List.{cons_option}
use Rattle.audit_chain.specs.Provenance.{audited_stage}
use Rattle.audit_chain.proofs.RestsLemmas.Tests.{some_more}
use Rattle.audit_chain.proofs.origin.telling.same_stages.Goals as goal

pub loop-stage-preserved : goal.loop-stage-preserved
loop-stage-preserved c =
    c.in_ok-push_name.ensures
    ∙ ap₂ (λ l b. l ++ cons_option (cond b (Some c.stage-item.result.name) None) []) c.loop-stage.invariant c.is_told.ensures
    ∙ some_more (audited_stage c.args.audit.now.recipe.now c.args.audit.now.report.now c.args.how c.args.parts.now c.args.own.now) c.as_slice-stage-items.result.now c.args.audit.now.recipe.now.stages c.loop-stage.stage-index c.stage-item.result
    (c.as_slice-stage-items.ensures ∙ c.stages.ensures.value) c.loop-stage-test.true c.stage-item.is
