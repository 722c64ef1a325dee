use Rattle.std.proofs.Common.{length}
use Rattle.verifier.proofs.header.+names_stages.Given as goal

abbrev pub decreases-names_stages : goal.decreases-names_stages
decreases-names_stages l = length l.stages.now
