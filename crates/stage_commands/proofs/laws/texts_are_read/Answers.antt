use Rattle.stage_commands.proofs.Reading.{reads}
use Rattle.stage_commands.proofs.laws.texts_are_read.Goals as goal

pub returns : goal.returns
returns c = reads
