use Rattle.std.proofs.Common.{length, ◌∙◌}
use Rattle.audit_run.proofs.Present.{found-rules, made}
use Rattle.audit_run.proofs.setting.setting_of.Goals as goal

pub box_of-requires-clause-stage : goal.box_of-requires-clause-stage
box_of-requires-clause-stage c =
    found-rules c.args.recipe.now c.as_slice.result.now (length c.args.done.now) c.in-Some.stage.now c.stages.ensures.kept (c.as_slice.ensures ∙ c.stages.ensures.value)
    c.in-Some.ensures.lookup.0 c.in-Some.ensures.lookup.1

pub box_of-requires-clause-done : goal.box_of-requires-clause-done
box_of-requires-clause-done c = made c.args.recipe.now c.args.done.now c.requires.done
