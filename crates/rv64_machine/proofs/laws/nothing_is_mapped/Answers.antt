use Rattle.rv64_machine.proofs.ActLemmas.{act-mapping}
use Rattle.rv64_machine.proofs.laws.nothing_is_mapped.Goals as goal

pub returns : goal.returns
returns c = act-mapping
