use Rattle.std.proofs.Common.{◌≡◌, Some, length, slice_get, subst, sym}
use Rattle.stage_commands.proofs.Stepping.{stage_rules}
use Rattle.stage_commands.proofs.ready.stage_at.Goals as goal

pub returns-in-Some-clause-rules : goal.returns-in-Some-clause-rules
returns-in-Some-clause-rules c =
    stage_rules c.args.recipe.now (length c.args.done.now) c.in-Some.stage.now c.stages.ensures.kept
    (subst (λ stages. slice_get stages (length c.args.done.now) ≡ Some c.in-Some.stage.now) c.stages.ensures.value (sym c.in-Some.ensures))
