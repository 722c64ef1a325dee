use Rattle.std.proofs.Common.{◌++◌, [], None, Some, cond, ap₂, ◌∙◌}
use Rattle.std.specs.List.{cons_option}
use Rattle.audit_chain.specs.Rests.Basis.{spoken_name}
use Rattle.audit_chain.proofs.RestsLemmas.Tests.{some_more}
use Rattle.audit_chain.proofs.rests.resting.spoken_of.Goals as goal

pub loop-stage-preserved : goal.loop-stage-preserved
loop-stage-preserved c =
    c.in_ok-push_name.ensures
    ∙ ap₂ (λ l b. l ++ cons_option (cond b (Some c.stage-item.result.name) None) []) c.loop-stage.invariant c.speak_of.ensures
    ∙ some_more (spoken_name c.args.recipe.now c.args.lines.now) c.as_slice-stage-items.result.now c.args.recipe.now.stages c.loop-stage.stage-index
    c.stage-item.result (c.as_slice-stage-items.ensures ∙ c.stages.ensures.value) c.loop-stage-test.true c.stage-item.is
