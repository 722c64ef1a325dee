use Rattle.std.proofs.Common.{length}
use Rattle.verifier.proofs.judging.+wrong_input.Given as goal

abbrev pub decreases-wrong_input : goal.decreases-wrong_input
decreases-wrong_input l = length l.inputs.now
