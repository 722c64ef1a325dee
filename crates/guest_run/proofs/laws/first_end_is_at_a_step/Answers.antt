use Rattle.guest_run.proofs.RunLaws.{first_end-at}
use Rattle.guest_run.proofs.laws.first_end_is_at_a_step.Goals as goal

pub returns : goal.returns
returns c = first_end-at
