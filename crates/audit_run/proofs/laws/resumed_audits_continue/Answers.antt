use Rattle.audit_run.proofs.Continuing.{continues}
use Rattle.audit_run.proofs.laws.resumed_audits_continue.Goals as goal

pub returns : goal.returns
returns c = λ recipe inputs p most answer now is valid a. continues recipe inputs p is valid most answer now a
