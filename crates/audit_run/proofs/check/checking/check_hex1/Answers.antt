use Rattle.audit_rules.specs.SourceCheck.Checks.{check}
use Rattle.audit_run.proofs.CheckLemmas.Refused.{read-refused}
use Rattle.audit_run.proofs.check.checking.check_hex1.Goals as goal

pub returns-in-Err : goal.returns-in-Err
unfolding check
returns-in-Err c = read-refused _ _ _ c.in-Err.refusal _ c.in-Err.ensures c.hex_refused.ensures
