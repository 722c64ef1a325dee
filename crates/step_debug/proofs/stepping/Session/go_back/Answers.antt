use Rattle.std.proofs.Common.{◌-◌, ◌∙◌, arith, ap}
use Rattle.step_debug.specs.Sessions.{state_of_step}
use Rattle.step_debug.proofs.Positions.{back}
use Rattle.step_debug.proofs.stepping.Session.go_back.Goals as goal

pub invariant_of-self : goal.invariant_of-self
invariant_of-self c =
    back _ _ _ c.self.invariant (ap (λ s. state_of_step s (c.steps-steps.result - c.args.count)) c.self.view_is ∙ c.in_ok-guest.ensures.state) c.in_ok-guest.ensures.steps
    (omega (arith, c.steps-steps.ensures.value))
