use Rattle.stage_commands.proofs.PiecesShown.{end_shown, end_reported}
use Rattle.stage_commands.proofs.laws.ends_are_reported.Goals as goal

pub returns-clause-reported : goal.returns-clause-reported
returns-clause-reported c = end_reported

pub returns-clause-shown : goal.returns-clause-shown
returns-clause-shown c = end_shown
