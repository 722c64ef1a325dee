use Rattle.std.proofs.Common.{length}
use Rattle.save_format.proofs.patch_text.writing.+marks_of.Given as goal

abbrev pub decreases-marks_of : goal.decreases-marks_of
decreases-marks_of l = length l.base.now
