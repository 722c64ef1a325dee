use Rattle.std.proofs.Common.{length}
use Rattle.audit_run.proofs.save.judging.+are_finished.Given as goal

abbrev pub decreases-are_finished : goal.decreases-are_finished
decreases-are_finished l = length l.done.now
