use Rattle.std.proofs.Common.{◌≡◌, Some, length, slice_get, sym, subst, arith}
use Rattle.audit_rules.proofs.ValidPositions.{all-made}
use Rattle.command_plan.proofs.Obtaining.{stops_with, wants_at_once}
use Rattle.stage_commands.proofs.Stepping.{stage_in_range, stage_rules}
use Rattle.stage_commands.proofs.step.start_over.Goals as goal

pub open-requires-clause-stage : goal.open-requires-clause-stage
open-requires-clause-stage c =
    stage_rules c.args.recipe.now (length c.args.done.now) c.in-Some.stage.now c.stages.ensures.kept
    (subst (λ stages. slice_get stages (length c.args.done.now) ≡ Some c.in-Some.stage.now) c.stages.ensures.value (sym c.in-Some.ensures))

pub open-requires-clause-done : goal.open-requires-clause-done
open-requires-clause-done c = all-made c.args.recipe.now.stages c.args.done.now c.requires.done.each

pub returns-in_err-session : goal.returns-in_err-session
returns-in_err-session c = λ shelf. stops_with c.from_residual-in_err-session.ensures.1 (wants_at_once _ shelf)

pub overflow_cast-done : goal.overflow_cast-done
overflow_cast-done c =
    let few = stage_in_range c.args.recipe.now (length c.args.done.now) c.in-Some.stage.now c.stages.ensures.kept
    (subst (λ stages. slice_get stages (length c.args.done.now) ≡ Some c.in-Some.stage.now) c.stages.ensures.value (sym c.in-Some.ensures)) in
    omega (arith, few)

pub overflow_add-done : goal.overflow_add-done
overflow_add-done c =
    let few = stage_in_range c.args.recipe.now (length c.args.done.now) c.in-Some.stage.now c.stages.ensures.kept
    (subst (λ stages. slice_get stages (length c.args.done.now) ≡ Some c.in-Some.stage.now) c.stages.ensures.value (sym c.in-Some.ensures)) in
    omega (arith, few)
