use Rattle.step_debug.proofs.Positions.{further}
use Rattle.step_debug.proofs.stepping.Session.go_on.Goals as goal

pub invariant_of-self : goal.invariant_of-self
invariant_of-self c = further _ _ _ _ _ _ _ c.self.invariant c.run_to-end.ensures c.min-most.ensures c.steps.ensures.value
