use Rattle.guest_run.proofs.RunLaws.{first_end-found}
use Rattle.guest_run.proofs.laws.first_end_is_found.Goals as goal

pub returns : goal.returns
returns c = first_end-found
