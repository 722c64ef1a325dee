use Rattle.guest_run.proofs.RunLaws.{after-sum}
use Rattle.guest_run.proofs.laws.steps_in_parts.Goals as goal

pub returns : goal.returns
returns c = after-sum
