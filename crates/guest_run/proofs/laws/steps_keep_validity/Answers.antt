use Rattle.guest_run.proofs.Validity.{after-valid}
use Rattle.guest_run.proofs.laws.steps_keep_validity.Goals as goal

pub returns : goal.returns
returns c = after-valid
