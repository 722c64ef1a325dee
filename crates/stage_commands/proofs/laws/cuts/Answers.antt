use Rattle.stage_commands.proofs.Cutting.{cut_is_right}
use Rattle.stage_commands.proofs.laws.cuts.Goals as goal

pub returns : goal.returns
returns c = cut_is_right
