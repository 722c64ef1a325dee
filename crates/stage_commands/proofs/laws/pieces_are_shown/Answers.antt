use Rattle.stage_commands.proofs.PiecesShown.{piece_shown}
use Rattle.stage_commands.proofs.laws.pieces_are_shown.Goals as goal

pub returns : goal.returns
returns c = piece_shown
