use Rattle.rv64_machine.proofs.Acts.{acts_to}
use Rattle.rv64_machine.proofs.hart.Hart.run_to.Goals as goal

pub returns-clause-acts : goal.returns-clause-acts
returns-clause-acts g c = acts_to _ _ _ _ _ _ _ c.unwrap_or.ensures c.run_down-end.ensures.acts
