use Rattle.stage_commands.proofs.CutEnding.{cut_ends, cut_goes_on}
use Rattle.stage_commands.proofs.laws.cuts_end.Goals as goal

pub returns-clause-reported : goal.returns-clause-reported
returns-clause-reported c = cut_ends

pub returns-clause-many : goal.returns-clause-many
returns-clause-many c = cut_goes_on
