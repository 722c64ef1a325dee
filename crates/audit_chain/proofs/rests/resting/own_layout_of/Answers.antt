use Rattle.std.proofs.Common.{◌++◌, [], None, Some, cond, ap₂, ◌∙◌}
use Rattle.std.specs.List.{cons_option}
use Rattle.audit_chain.specs.Rests.Basis.{own_layout_name}
use Rattle.audit_chain.proofs.RestsLemmas.Tests.{some_more}
use Rattle.audit_chain.proofs.rests.resting.own_layout_of.Goals as goal

pub loop-stage-preserved : goal.loop-stage-preserved
loop-stage-preserved c =
    c.in_ok-push_name.ensures
    ∙ ap₂ (λ l b. l ++ cons_option (cond b (Some c.stage-item.result.name) None) []) c.loop-stage.invariant c.is_own_layout.ensures
    ∙ some_more (own_layout_name c.args.recipe.now c.args.own.now) c.as_slice-stage-items.result.now c.args.recipe.now.stages c.loop-stage.stage-index c.stage-item.result
    (c.as_slice-stage-items.ensures ∙ c.stages.ensures.value) c.loop-stage-test.true c.stage-item.is
