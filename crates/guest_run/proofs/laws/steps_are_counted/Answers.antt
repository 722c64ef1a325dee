use Rattle.guest_run.proofs.Running.{after-counted}
use Rattle.guest_run.proofs.laws.steps_are_counted.Goals as goal

pub returns : goal.returns
returns c = after-counted
