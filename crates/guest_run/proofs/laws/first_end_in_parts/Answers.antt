use Rattle.guest_run.proofs.RunLaws.{first_end-sum, stays}
use Rattle.guest_run.proofs.laws.first_end_in_parts.Goals as goal

pub returns : goal.returns
returns c = record { former = stays; latter = first_end-sum }
