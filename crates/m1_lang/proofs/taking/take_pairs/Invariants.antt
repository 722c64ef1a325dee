use Rattle.std.proofs.Common.{◌≤◌, ◌-◌, length, map, drop}
use Rattle.ddc_base.specs.Limits.{most_items}
use Rattle.hex_langs.specs.declared.items.token.Token.TheVariants.{Byte}
use Rattle.m1_lang.specs.Words.Meanings.{prefix_bytes}
use Rattle.m1_lang.proofs.Takings.{Remaining}
use Rattle.m1_lang.proofs.taking.take_pairs.Given as goal

abbrev pub invariant-loop-at : goal.invariant-loop-at
invariant-loop-at l = record {
  so_far : Remaining l.initial.word (map Byte (prefix_bytes l.digits)) l.initial.items l.word (map Byte (prefix_bytes (drop l.at l.digits))) l.items;
  few : length l.items ≤ most_items;
  within : l.at ≤ length l.digits;
}

abbrev pub decreases-loop-at : goal.decreases-loop-at
decreases-loop-at l = length l.digits - l.at
