use Rattle.guest_run.proofs.RunLaws.{end-stays}
use Rattle.guest_run.proofs.laws.an_end_stays.Goals as goal

pub returns : goal.returns
returns c = end-stays
