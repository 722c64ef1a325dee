use Rattle.std.proofs.Common.{length}
use Rattle.verifier.proofs.header.+names_inputs.Given as goal

abbrev pub decreases-names_inputs : goal.decreases-names_inputs
decreases-names_inputs l = length l.inputs.now
