use Rattle.std.proofs.Common.{length, ◌∙◌}
use Rattle.audit_run.proofs.Present.{found-rules, made}
use Rattle.audit_run.proofs.entering.enter.Goals as goal

pub start_stage-requires-clause-stage : goal.start_stage-requires-clause-stage
start_stage-requires-clause-stage c =
    found-rules c.args.recipe.now c.as_slice.result.now (length c.args.done.now) c.in-Some.stage.now c.stages.ensures.kept (c.as_slice.ensures ∙ c.stages.ensures.value)
    c.in-Some.ensures.lookup.0 c.in-Some.ensures.lookup.1

pub start_stage-requires-clause-done : goal.start_stage-requires-clause-done
start_stage-requires-clause-done c = made c.args.recipe.now c.args.done.now c.requires.done
