use Rattle.audit_rules.proofs.Closing.{keeps-answer}
use Rattle.audit_rules.proofs.Rules.{rules}
use Rattle.audit_rules.proofs.laws.positions_keep_their_answer.Goals as goal

pub returns : goal.returns
returns c = λ recipe inputs p count is ok. keeps-answer recipe inputs p count (rules recipe is) ok
