use Rattle.audit_run.proofs.CheckLemmas.Refused.{link-refused}
use Rattle.audit_run.proofs.check.checking.check_linked.Goals as goal

pub returns-in-Err : goal.returns-in-Err
returns-in-Err c = link-refused _ _ c.in-Err.refusal _ c.in-Err.ensures c.hex_refused.ensures
