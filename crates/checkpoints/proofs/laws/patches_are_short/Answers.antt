use Rattle.checkpoints.proofs.PatchLengths.{patches_short}
use Rattle.checkpoints.proofs.laws.patches_are_short.Goals as goal

pub returns : goal.returns
returns c = patches_short
