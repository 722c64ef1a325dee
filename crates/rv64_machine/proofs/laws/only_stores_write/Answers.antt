use Rattle.rv64_machine.proofs.ActLemmas.{act-memory_other}
use Rattle.rv64_machine.proofs.laws.only_stores_write.Goals as goal

pub returns : goal.returns
returns c = act-memory_other
