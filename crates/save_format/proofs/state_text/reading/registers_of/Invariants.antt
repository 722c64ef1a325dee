use Rattle.std.proofs.Common.{◌≡◌, ◌-◌, length, take}
use Rattle.save_format.specs.ByteFields.Reader.{alike, u64}
use Rattle.save_format.proofs.ByteFieldsLemmas.Loop.{with_prefix}
use Rattle.save_format.proofs.state_text.reading.registers_of.Given as goal

abbrev pub invariant-loop-index : goal.invariant-loop-index
invariant-loop-index l = record {
  long : length l.registers ≡ 31;
  read : with_prefix (take l.index l.registers) (alike u64 (31 - l.index) l.cursor) ≡ alike u64 31 l.fn.cursor;
}
