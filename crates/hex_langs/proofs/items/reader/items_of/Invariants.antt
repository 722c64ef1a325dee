use Rattle.std.proofs.Common.{length, ◌-◌, ◌≡◌, ◌≤◌, drop, None}
use Rattle.ddc_base.specs.Limits.{most_items}
use Rattle.hex_langs.specs.Items.Reading.{formed, reading, with_prefix}
use Rattle.hex_langs.proofs.items.reader.items_of.Given as goal

-- the items so far, and those of what is left after the word that is open, make up the whole
abbrev pub invariant-loop-at : goal.invariant-loop-at
invariant-loop-at l = record {
  whole : formed None (reading l.dialect 0 0 l.source) ≡ with_prefix l.items (formed l.word (reading l.dialect l.at 0 (drop l.at l.source)));
  few : length l.items ≤ most_items;
  within : l.at ≤ length l.source;
}

abbrev pub decreases-loop-at : goal.decreases-loop-at
decreases-loop-at l = length l.source - l.at
