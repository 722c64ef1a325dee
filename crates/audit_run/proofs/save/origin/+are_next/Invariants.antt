use Rattle.std.proofs.Common.{length}
use Rattle.audit_run.proofs.save.origin.+are_next.Given as goal

abbrev pub decreases-are_next : goal.decreases-are_next
decreases-are_next l = length l.inputs.now
