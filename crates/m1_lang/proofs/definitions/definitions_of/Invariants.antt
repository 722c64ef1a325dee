use Rattle.std.proofs.Common.{◌≡◌, ◌≤◌, ◌-◌, length, None}
use Rattle.hex_langs.specs.NameKeys.{IsKeyedBy}
use Rattle.m1_lang.specs.Definitions.{defined_names}
use Rattle.m1_lang.specs.Representation.Passes.{open_at, parts_at, valued, values_in}
use Rattle.m1_lang.proofs.definitions.definitions_of.Given as goal

abbrev pub invariant-loop-at : goal.invariant-loop-at
invariant-loop-at l = record {
  quote : open_at l.source 0 ≡ open_at l.source l.at;
  whole : valued (λ text. None) (parts_at l.source 0) ≡ valued (values_in l.table) (parts_at l.source l.at);
  keyed : IsKeyedBy (defined_names (parts_at l.source 0)) l.table;
  within : l.at ≤ length l.source;
}

abbrev pub decreases-loop-at : goal.decreases-loop-at
decreases-loop-at l = length l.source - l.at
