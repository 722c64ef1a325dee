use Rattle.guest_run.proofs.Validity.{after-valid}
use Rattle.guest_run.proofs.guest.Guest.run_to.Goals as goal

pub invariant_of-self : goal.invariant_of-self
invariant_of-self g c = after-valid _ _ c.run.ensures.count c.self.invariant c.run.ensures.reached
