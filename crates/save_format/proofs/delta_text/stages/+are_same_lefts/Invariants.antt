use Rattle.std.proofs.Common.{length}
use Rattle.save_format.proofs.delta_text.stages.+are_same_lefts.Given as goal

abbrev pub decreases-are_same_lefts : goal.decreases-are_same_lefts
decreases-are_same_lefts l = length l.firsts.now
