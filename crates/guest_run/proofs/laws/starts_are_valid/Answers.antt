use Rattle.guest_run.proofs.StartLaw.{starts-valid}
use Rattle.guest_run.proofs.laws.starts_are_valid.Goals as goal

pub returns : goal.returns
returns c = starts-valid
