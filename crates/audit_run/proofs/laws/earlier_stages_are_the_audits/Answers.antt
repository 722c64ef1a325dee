use Rattle.audit_run.proofs.InOrder.{bench-following}
use Rattle.audit_run.proofs.laws.earlier_stages_are_the_audits.Goals as goal

pub returns : goal.returns
returns c = λ recipe inputs count. bench-following recipe inputs count
