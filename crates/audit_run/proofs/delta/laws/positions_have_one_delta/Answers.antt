use Rattle.audit_run.proofs.DeltaLemmas.Exactly.{delta_read, one_delta}
use Rattle.audit_run.proofs.delta.laws.positions_have_one_delta.Goals as goal

pub returns-clause-one : goal.returns-clause-one
returns-clause-one c = one_delta

pub returns-clause-judged : goal.returns-clause-judged
returns-clause-judged c = delta_read
