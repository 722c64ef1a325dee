use Rattle.wheeler.proofs.RouteBack.{goes-back, no-stage, of-number}
use Rattle.wheeler.proofs.laws.a_route_goes_back.Goals as goal

pub returns-clause-back : goal.returns-clause-back
returns-clause-back c = goes-back

pub returns-clause-ends : goal.returns-clause-ends
returns-clause-ends c = no-stage

pub returns-clause-number : goal.returns-clause-number
returns-clause-number c = of-number
