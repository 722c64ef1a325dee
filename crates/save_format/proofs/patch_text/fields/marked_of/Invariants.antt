use Rattle.std.proofs.Common.{◌≡◌, drop, length, take}
use Rattle.save_format.proofs.ByteFieldsLemmas.Loop.{with_prefix}
use Rattle.save_format.specs.PatchText.PatchText.{marked_at}
use Rattle.save_format.proofs.patch_text.fields.marked_of.Given as goal

abbrev pub invariant-loop-index : goal.invariant-loop-index
invariant-loop-index l = record {
  long : length l.registers ≡ 31;
  read : with_prefix (take l.index l.registers) (marked_at l.higher (drop l.index l.base) l.cursor) ≡ marked_at l.fn.marks l.base l.fn.cursor;
}
