use Rattle.std.proofs.Common.{◌≡◌, ◌≤◌, ◌++◌, length}
use Rattle.wheeler.specs.Routes.{route_from}
use Rattle.wheeler.proofs.routing.route_from.Given as goal

abbrev pub invariant-loop-before : goal.invariant-loop-before
invariant-loop-before l = (l.before ≤ length l.stages) × (l.names ++ route_from l.stages l.before l.program ≡ route_from l.stages (length l.stages) l.fn.program)

abbrev pub decreases-loop-before : goal.decreases-loop-before
decreases-loop-before l = l.before
