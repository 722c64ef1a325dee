use Rattle.rv64_machine.proofs.ActLemmas.{act-conditional_access, act-conditional_other}
use Rattle.rv64_machine.proofs.laws.a_store_conditional_writes_its_access.Goals as goal

pub returns-clause-access : goal.returns-clause-access
returns-clause-access c = act-conditional_access

pub returns-clause-others : goal.returns-clause-others
returns-clause-others c = act-conditional_other
