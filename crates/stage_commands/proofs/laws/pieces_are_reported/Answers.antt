use Rattle.stage_commands.proofs.Reading.{is_reported}
use Rattle.stage_commands.proofs.laws.pieces_are_reported.Goals as goal

pub returns : goal.returns
returns c = is_reported
