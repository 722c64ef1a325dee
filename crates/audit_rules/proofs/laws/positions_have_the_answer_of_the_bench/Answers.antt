use Rattle.audit_rules.proofs.Closing.{may-step}
use Rattle.audit_rules.proofs.Continues.{position-bench}
use Rattle.audit_rules.proofs.Rules.{rules}
use Rattle.audit_rules.proofs.laws.positions_have_the_answer_of_the_bench.Goals as goal

pub returns : goal.returns
returns c = λ recipe inputs count is. position-bench recipe (may-step recipe (rules recipe is)) inputs count
