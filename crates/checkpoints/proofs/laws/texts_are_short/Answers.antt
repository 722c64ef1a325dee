use Rattle.checkpoints.proofs.StateLengths.{texts_short}
use Rattle.checkpoints.proofs.laws.texts_are_short.Goals as goal

pub returns : goal.returns
returns c = texts_short
