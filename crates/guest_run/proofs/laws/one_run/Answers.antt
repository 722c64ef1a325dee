use Rattle.guest_run.proofs.Programs.{one-run}
use Rattle.guest_run.proofs.laws.one_run.Goals as goal

pub returns : goal.returns
returns c = one-run
