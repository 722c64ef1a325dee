use Rattle.std.proofs.Common.{length}
use Rattle.audit_run.proofs.save.reading.+are_digests.Given as goal

abbrev pub decreases-are_digests : goal.decreases-are_digests
decreases-are_digests l = length l.parts.now
