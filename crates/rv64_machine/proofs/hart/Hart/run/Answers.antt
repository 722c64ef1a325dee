use Rattle.rv64_machine.proofs.Acts.{in_a_row}
use Rattle.rv64_machine.proofs.hart.Hart.run.Goals as goal

pub returns-clause-acts : goal.returns-clause-acts
returns-clause-acts g c = in_a_row _ _ _ _ _ c.run_to.ensures.acts
