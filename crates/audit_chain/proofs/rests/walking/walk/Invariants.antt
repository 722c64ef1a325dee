use Rattle.std.proofs.Common.{◌≡◌, ◌≤◌, length}
use Rattle.audit_chain.specs.Rests.Walk.{walk, walk_from}
use Rattle.audit_chain.proofs.rests.walking.walk.Given as goal

abbrev pub invariant-loop-before : goal.invariant-loop-before
invariant-loop-before l = (l.before ≤ length l.recipe.stages) × (walk_from l.recipe l.before l.parts ≡ walk l.recipe l.name)

abbrev pub decreases-loop-before : goal.decreases-loop-before
decreases-loop-before l = l.before
