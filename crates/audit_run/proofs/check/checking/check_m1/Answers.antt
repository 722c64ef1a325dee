use Rattle.audit_rules.specs.SourceCheck.Checks.{check}
use Rattle.audit_run.proofs.CheckLemmas.Refused.{m1-refused}
use Rattle.audit_run.proofs.check.checking.check_m1.Goals as goal

pub returns-in-Err : goal.returns-in-Err
unfolding check
returns-in-Err c = m1-refused _ _ c.in-Err.refusal _ c.in-Err.ensures c.m1_refused.ensures
