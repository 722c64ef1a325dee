use Rattle.guest_run.proofs.RunLaws.{runs-join}
use Rattle.guest_run.proofs.laws.runs_join.Goals as goal

pub returns : goal.returns
returns c = runs-join
