use Rattle.std.proofs.Common.{◌≡◌, take}
use Rattle.std.specs.Prelude.{filter}
use Rattle.wheeler.specs.Routes.{about}
use Rattle.audit_chain.specs.Rests.Walk.{runs_meet}
use Rattle.audit_chain.proofs.rests.resting.lines_of.Given as goal

abbrev pub invariant-loop-line : goal.invariant-loop-line
invariant-loop-line l = l.lines ≡ filter (λ line. runs_meet l.parts (about line)) (take l.line-index l.whole)
