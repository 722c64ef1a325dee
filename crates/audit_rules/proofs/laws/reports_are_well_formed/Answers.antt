use Rattle.audit_rules.proofs.Closing.{bench-report, position-report}
use Rattle.audit_rules.proofs.Rules.{rules}
use Rattle.audit_rules.proofs.laws.reports_are_well_formed.Goals as goal

pub returns-clause-bench : goal.returns-clause-bench
returns-clause-bench c = λ recipe inputs report is given comes. bench-report recipe inputs report (rules recipe is) given comes

pub returns-clause-position : goal.returns-clause-position
returns-clause-position c = λ recipe inputs p report is given ok comes. position-report recipe inputs p report (rules recipe is) given ok comes
