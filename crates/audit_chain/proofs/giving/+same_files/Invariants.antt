use Rattle.std.proofs.Common.{length}
use Rattle.audit_chain.proofs.giving.+same_files.Given as goal

abbrev pub decreases-same_files : goal.decreases-same_files
decreases-same_files l = length l.ones.now
