use Rattle.std.proofs.Common.{◌+◌, Ok, subst, arith}
use Rattle.ddc_base.specs.Limits.{most_states}
use Rattle.command_plan.proofs.Gathering.{ends_as}
use Rattle.command_plan.proofs.Obtaining.{ends_with}
use Rattle.command_plan.proofs.Performing.{says, wants_memory}
use Rattle.stage_commands.specs.Cut.{saved_from}
use Rattle.stage_commands.specs.Inside.Going.{ComesOn, IsBelow}
use Rattle.stage_commands.proofs.Stretches.{answers_after, following, ends_there, next_one, none_left, rest_at, wants_after}
use Rattle.stage_commands.proofs.cut.save_along.Goals as goal

pub returns-in_err-save_state : goal.returns-in_err-save_state
returns-in_err-save_state g c =
    ends_with c.from_residual.ensures.1
    (ends_there c.args.stage.now c.args.spacing.now.every c.args.spacing.now.prefix (saved_from c.args.stage.now c.args.spacing.now.every c.args.spacing.now.prefix most_states 0 c.args.guest.now) _ _ c.loop-saved.saved c.loop-saved.guest
    c.loop-saved.invariant.0 (omega (arith, c.loop-saved-test.true)) _ _ c.in_err-save_state.ensures)

pub returns-in_err-answer : goal.returns-in_err-answer
returns-in_err-answer g c =
    ends_with c.from_residual-in_err-answer.ensures.1
    (wants_after c.args.stage.now c.args.spacing.now.every c.args.spacing.now.prefix (saved_from c.args.stage.now c.args.spacing.now.every c.args.spacing.now.prefix most_states 0 c.args.guest.now) _ _ c.loop-saved.saved c.loop-saved.guest
    c.loop-saved.invariant.0 (omega (arith, c.loop-saved-test.true)) _ _ c.in_ok-save_state.ensures _ c.in_err-answer.ensures.comes_on)

pub returns-in-Some : goal.returns-in-Some
returns-in-Some g c =
    answers_after c.args.stage.now c.args.spacing.now.every c.args.spacing.now.prefix (saved_from c.args.stage.now c.args.spacing.now.every c.args.spacing.now.prefix most_states 0 c.args.guest.now) _ _ c.loop-saved.saved c.loop-saved.guest
    c.loop-saved.invariant.0 (omega (arith, c.loop-saved-test.true)) _ _ c.in_ok-save_state.ensures c.in-Some.answer
    (subst (λ r. ComesOn (following c.args.stage.now (c.loop-saved.saved + 1) c.args.spacing.now.every c.loop-saved.guest c.loop-saved.guest) c.go_on.new.guest (Ok r)) c.in-Some.is c.in_ok-answer.ensures.comes_on)

pub loop-saved-preserved : goal.loop-saved-preserved
loop-saved-preserved g c = (
  next_one c.args.stage.now c.args.spacing.now.every c.args.spacing.now.prefix (saved_from c.args.stage.now c.args.spacing.now.every c.args.spacing.now.prefix most_states 0 c.args.guest.now) _ _ c.loop-saved.saved c.loop-saved.guest
      c.loop-saved.invariant.0 (omega (arith, c.loop-saved-test.true)) _ _ c.in_ok-save_state.ensures c.go_on.new.guest
      (subst (λ r. ComesOn (following c.args.stage.now (c.loop-saved.saved + 1) c.args.spacing.now.every c.loop-saved.guest c.loop-saved.guest) c.go_on.new.guest (Ok r)) c.in-None.is c.in_ok-answer.ensures.comes_on),
  subst (λ r. IsBelow c.args.stage.now.steps c.go_on.new.guest (Ok r)) c.in-None.is c.in_ok-answer.ensures.below,
  omega (arith, c.loop-saved-test.true),
)

pub returns-in_err-too_many : goal.returns-in_err-too_many
returns-in_err-too_many g c =
    let rest = rest_at c.args.stage.now c.args.spacing.now.every c.args.spacing.now.prefix c.loop-saved.saved c.loop-saved.guest in
    ends_with c.from_residual-in_err-too_many.ensures.1 (ends_as _ rest _ _ c.loop-saved.invariant.0 _ _ (wants_memory rest _))

pub returns : goal.returns
returns g c =
    let rest = rest_at c.args.stage.now c.args.spacing.now.every c.args.spacing.now.prefix c.loop-saved.saved c.loop-saved.guest in
    ends_as _ rest _ _ c.loop-saved.invariant.0 _ _
    (says rest _ _ (record { by_result = none_left c.args.stage.now c.args.spacing.now.every c.args.spacing.now.prefix c.loop-saved.saved c.loop-saved.guest _ (omega (arith, c.loop-saved-test.false)) c.in_ok-too_many.ensures }))
