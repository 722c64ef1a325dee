use Rattle.rv64_machine.proofs.Keeping.{answered-hart}
use Rattle.rv64_machine.proofs.Numbers.{answered-numbers}
use Rattle.rv64_machine.proofs.laws.answers_keep_the_rules.Goals as goal

pub returns-clause-rules : goal.returns-clause-rules
returns-clause-rules c = answered-hart

pub returns-clause-numbers : goal.returns-clause-numbers
returns-clause-numbers c = answered-numbers
