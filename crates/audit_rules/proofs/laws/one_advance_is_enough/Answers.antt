use Rattle.audit_rules.proofs.Closing.{advance-enough, beginning-enough}
use Rattle.audit_rules.proofs.Rules.{rules}
use Rattle.audit_rules.proofs.laws.one_advance_is_enough.Goals as goal

pub returns-clause-position : goal.returns-clause-position
returns-clause-position c = λ recipe inputs p is ok. advance-enough recipe inputs p (rules recipe is) ok

pub returns-clause-beginning : goal.returns-clause-beginning
returns-clause-beginning c = λ recipe inputs is. beginning-enough recipe inputs (rules recipe is)
