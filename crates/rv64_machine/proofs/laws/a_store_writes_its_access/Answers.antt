use Rattle.rv64_machine.proofs.ActLemmas.{act-store_access, act-store_other}
use Rattle.rv64_machine.proofs.laws.a_store_writes_its_access.Goals as goal

pub returns-clause-access : goal.returns-clause-access
returns-clause-access c = act-store_access

pub returns-clause-others : goal.returns-clause-others
returns-clause-others c = act-store_other
