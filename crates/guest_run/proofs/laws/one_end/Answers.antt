use Rattle.guest_run.proofs.RunLaws.{one_end-law}
use Rattle.guest_run.proofs.laws.one_end.Goals as goal

pub returns : goal.returns
returns c = one_end-law
