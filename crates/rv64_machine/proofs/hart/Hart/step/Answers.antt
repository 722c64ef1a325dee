use Rattle.rv64_machine.proofs.ActLemmas.{Acts-mapping}
use Rattle.rv64_machine.proofs.hart.Hart.step.Goals as goal

pub returns-clause-mapping : goal.returns-clause-mapping
returns-clause-mapping g c = Acts-mapping _ _ c.advance.result c.advance.ensures
