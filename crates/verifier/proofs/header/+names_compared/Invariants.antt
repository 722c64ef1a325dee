use Rattle.std.proofs.Common.{length}
use Rattle.verifier.proofs.header.+names_compared.Given as goal

abbrev pub decreases-names_compared : goal.decreases-names_compared
decreases-names_compared l = length l.stages.now
