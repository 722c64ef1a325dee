use Rattle.std.proofs.Common.{◌≡◌, ◌≤◌, ◌-◌, length, None}
use Rattle.ddc_base.specs.Limits.{most_items}
use Rattle.hex_langs.specs.Items.Reading.{formed, with_prefix}
use Rattle.m1_lang.specs.Representation.Passes.{reading_at, values_in}
use Rattle.m1_lang.proofs.expansion.items_by.Given as goal

-- the items so far, and those of what is left after the word that is open, make up the whole
abbrev pub invariant-loop-at : goal.invariant-loop-at
invariant-loop-at l = record {
  whole : formed None (reading_at (values_in l.table) l.source 0)
      ≡ with_prefix l.items (formed l.word (reading_at (values_in l.table) l.source l.at));
  few : length l.items ≤ most_items;
  within : l.at ≤ length l.source;
}

abbrev pub decreases-loop-at : goal.decreases-loop-at
decreases-loop-at l = length l.source - l.at
