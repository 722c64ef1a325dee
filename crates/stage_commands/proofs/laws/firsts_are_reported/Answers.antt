use Rattle.stage_commands.proofs.FirstShown.{first_shown, first_reported}
use Rattle.stage_commands.proofs.laws.firsts_are_reported.Goals as goal

pub returns-clause-reported : goal.returns-clause-reported
returns-clause-reported c = first_reported

pub returns-clause-shown : goal.returns-clause-shown
returns-clause-shown c = first_shown
