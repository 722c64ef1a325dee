use Rattle.std.proofs.Common.{◌≤◌, ◌-◌, length}
use Rattle.m1_lang.specs.Definitions.{defined_names}
use Rattle.m1_lang.specs.Representation.Passes.{parts_at, TookUpTo}
use Rattle.m1_lang.proofs.definitions.names_key.Given as goal

abbrev pub invariant-loop-at : goal.invariant-loop-at
invariant-loop-at l = record {
  took : TookUpTo l.names l.source l.at (defined_names (parts_at l.source 0));
  within : l.at ≤ length l.source;
}

abbrev pub decreases-loop-at : goal.decreases-loop-at
decreases-loop-at l = length l.source - l.at
