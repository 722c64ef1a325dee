use Rattle.std.proofs.Common.{◌++◌, [], None, Some, cond, ap₂, ◌∙◌}
use Rattle.std.specs.List.{cons_option}
use Rattle.audit_chain.specs.Provenance.{run_input_name}
use Rattle.audit_chain.proofs.RestsLemmas.Tests.{some_more}
use Rattle.audit_chain.proofs.origin.telling.programs_of.Goals as goal

pub loop-input-preserved : goal.loop-input-preserved
loop-input-preserved c =
    c.in_ok-push_name.ensures
    ∙ ap₂ (λ l b. l ++ cons_option (cond b (Some c.input-item.result.name) None) []) c.loop-input.invariant c.runs_meet.ensures
    ∙ some_more (run_input_name c.args.parts.now) c.as_slice-input-items.result.now c.args.recipe.now.inputs c.loop-input.input-index c.input-item.result
    (c.as_slice-input-items.ensures ∙ c.inputs.ensures.value) c.loop-input-test.true c.input-item.is
