use Rattle.std.proofs.Common.{arith}
use Rattle.save_format.proofs.PatchTextLemmas.Written.{marks_fit}
use Rattle.save_format.proofs.patch_text.writing.put_registers.Goals as goal

pub overflow_mul-marks_of : goal.overflow_mul-marks_of
overflow_mul-marks_of c = omega (arith, marks_fit c.args.base.now c.args.registers.now c.requires, c.marks_of.ensures)
