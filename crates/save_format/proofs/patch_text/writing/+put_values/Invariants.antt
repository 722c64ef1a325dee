use Rattle.std.proofs.Common.{length}
use Rattle.save_format.proofs.patch_text.writing.+put_values.Given as goal

abbrev pub decreases-put_values : goal.decreases-put_values
decreases-put_values l = length l.base.now
