use Rattle.std.proofs.Common.{length, ◌-◌, ◌≡◌, ◌≤◌, drop}
use Rattle.ddc_base.specs.Limits.{most_items}
use Rattle.hex_langs.specs.Items.Reading.{reading}
use Rattle.tool_commands.specs.Offsets.{item_offset, offset_of_item}
use Rattle.tool_commands.proofs.offsets.offset_of_item.Given as goal

-- the item is none of those so far, and is found in what is left
abbrev pub invariant-loop-at : goal.invariant-loop-at
invariant-loop-at l = record {
  whole : offset_of_item l.dialect l.source l.index ≡ item_offset l.index (length l.items) l.word (reading l.dialect l.at 0 (drop l.at l.source));
  few : length l.items ≤ most_items;
  within : l.at ≤ length l.source;
}

abbrev pub decreases-loop-at : goal.decreases-loop-at
decreases-loop-at l = length l.source - l.at
