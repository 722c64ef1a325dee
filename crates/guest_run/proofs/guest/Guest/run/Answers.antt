use Rattle.std.proofs.Common.{arith}
use Rattle.guest_run.proofs.Going.{runs_of}
use Rattle.guest_run.proofs.guest.Guest.run.Goals as goal

pub returns-clause-answer : goal.returns-clause-answer
returns-clause-answer g c = runs_of _ _ _ _ c.run_to.ensures

pub returns-clause-rises : goal.returns-clause-rises
returns-clause-rises g c = omega (arith, c.run_to.ensures.counted)

pub returns-clause-few : goal.returns-clause-few
returns-clause-few g c = omega (arith, c.run_to.ensures.counted, c.run_to.ensures.few)
