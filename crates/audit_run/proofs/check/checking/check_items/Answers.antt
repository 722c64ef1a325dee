use Rattle.audit_run.proofs.CheckLemmas.Refused.{found-refused}
use Rattle.audit_run.proofs.check.checking.check_items.Goals as goal

pub returns-in-Err : goal.returns-in-Err
returns-in-Err c = found-refused _ _ c.in-Err.refusal _ c.in-Err.ensures c.no_items.ensures
