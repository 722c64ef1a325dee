use Rattle.wheeler.proofs.RouteLines.{route-lines}
use Rattle.wheeler.proofs.RouteSuffices.{on-trusted}
use Rattle.wheeler.proofs.laws.routes_are_trusted.Goals as goal

pub returns-clause-programs : goal.returns-clause-programs
returns-clause-programs c = on-trusted

pub returns-clause-lines : goal.returns-clause-lines
returns-clause-lines c = route-lines
