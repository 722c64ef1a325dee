use Rattle.audit_run.proofs.DeltaLemmas.DeltaLengths.{short}
use Rattle.audit_run.proofs.delta.laws.deltas_are_short.Goals as goal

pub returns : goal.returns
returns c = short
