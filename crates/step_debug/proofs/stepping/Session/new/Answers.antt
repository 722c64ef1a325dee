use Rattle.step_debug.proofs.Positions.{fresh}
use Rattle.step_debug.proofs.stepping.Session.new.Goals as goal

pub invariant_of-result : goal.invariant_of-result
invariant_of-result c = fresh _ _ _ _ c.in-Ok.ensures.answer c.in-Ok.ensures.fresh c.requires
