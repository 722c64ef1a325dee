use Rattle.checkpoints.proofs.FilePartsLemmas.SameWorld.{same_world}
use Rattle.checkpoints.proofs.file_parts.laws.lists_say_the_files.Goals as goal

pub returns : goal.returns
returns c = same_world
