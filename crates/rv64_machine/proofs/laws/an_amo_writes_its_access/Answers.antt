use Rattle.rv64_machine.proofs.ActLemmas.{act-amo_access, act-amo_other}
use Rattle.rv64_machine.proofs.laws.an_amo_writes_its_access.Goals as goal

pub returns-clause-access : goal.returns-clause-access
returns-clause-access c = act-amo_access

pub returns-clause-others : goal.returns-clause-others
returns-clause-others c = act-amo_other
