use Rattle.std.proofs.Common.{◌≡◌, ◌≤◌, ◌-◌, length}
use Rattle.m1_lang.specs.Representation.Passes.{open_at}
use Rattle.m1_lang.proofs.definitions.open_quote.Given as goal

abbrev pub invariant-loop-at : goal.invariant-loop-at
invariant-loop-at l = record { whole : open_at l.source l.from ≡ open_at l.source l.at; within : l.at ≤ length l.source }

abbrev pub decreases-loop-at : goal.decreases-loop-at
decreases-loop-at l = length l.source - l.at
