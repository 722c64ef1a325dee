use Rattle.audit_rules.proofs.Closing.{enough-over}
use Rattle.audit_rules.proofs.Rules.{rules}
use Rattle.audit_rules.proofs.laws.limits_are_enough.Goals as goal

pub returns : goal.returns
returns c = λ recipe inputs p count is ok few. enough-over recipe inputs p count (rules recipe is) ok few
