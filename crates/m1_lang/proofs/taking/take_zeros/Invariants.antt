use Rattle.std.proofs.Common.{◌≤◌, ◌-◌, length, map, replicate}
use Rattle.ddc_base.specs.Limits.{most_items}
use Rattle.hex_langs.specs.declared.items.token.Token.TheVariants.{Byte}
use Rattle.m1_lang.proofs.Takings.{Remaining}
use Rattle.m1_lang.proofs.taking.take_zeros.Given as goal

abbrev pub invariant-loop-i : goal.invariant-loop-i
invariant-loop-i l = record {
  so_far : Remaining l.initial.word (map Byte (replicate l.count 0)) l.initial.items l.word (map Byte (replicate (l.count - l.i) 0)) l.items;
  few : length l.items ≤ most_items;
}
