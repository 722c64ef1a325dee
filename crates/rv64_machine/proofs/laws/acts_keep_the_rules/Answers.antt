use Rattle.rv64_machine.proofs.Keeping.{act-hart}
use Rattle.rv64_machine.proofs.Numbers.{act-numbers}
use Rattle.rv64_machine.proofs.laws.acts_keep_the_rules.Goals as goal

pub returns-clause-rules : goal.returns-clause-rules
returns-clause-rules c = act-hart

pub returns-clause-numbers : goal.returns-clause-numbers
returns-clause-numbers c = λ hart next is numbers goes. act-numbers hart next is.whole numbers goes
