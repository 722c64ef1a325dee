use Rattle.step_debug.proofs.Positions.{again}
use Rattle.step_debug.proofs.laws.back_and_on_again.Goals as goal

pub returns : goal.returns
returns c session count is le = again session count is le
