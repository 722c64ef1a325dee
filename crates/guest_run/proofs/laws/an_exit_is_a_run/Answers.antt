use Rattle.guest_run.proofs.Programs.{exit-run}
use Rattle.guest_run.proofs.laws.an_exit_is_a_run.Goals as goal

pub returns : goal.returns
returns c = exit-run
