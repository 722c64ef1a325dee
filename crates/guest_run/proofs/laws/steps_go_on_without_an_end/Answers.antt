use Rattle.guest_run.proofs.RunLaws.{no_end-goes_on}
use Rattle.guest_run.proofs.laws.steps_go_on_without_an_end.Goals as goal

pub returns : goal.returns
returns c = no_end-goes_on
