use Rattle.stage_commands.proofs.Neighbours.{neighbours}
use Rattle.stage_commands.proofs.laws.neighbours_are_pieces.Goals as goal

pub returns : goal.returns
returns c = neighbours
