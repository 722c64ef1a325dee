use Rattle.std.proofs.Common.{◌≤◌, length, map, drop}
use Rattle.ddc_base.specs.Limits.{most_items}
use Rattle.hex_langs.specs.declared.items.token.Token.TheVariants.{Byte}
use Rattle.m1_lang.proofs.Takings.{Remaining}
use Rattle.m1_lang.proofs.taking.take_bytes.Given as goal

abbrev pub invariant-loop-byte : goal.invariant-loop-byte
invariant-loop-byte l = record {
  so_far : Remaining l.initial.word (map Byte l.bytes) l.initial.items l.word (map Byte (drop l.byte-index l.bytes)) l.items;
  few : length l.items ≤ most_items;
}
