use Rattle.checkpoints.proofs.MemoryPartsLemmas.RunsAgain.{same_runs_again}
use Rattle.checkpoints.proofs.memory_parts.laws.mapped_runs_are_the_runs.Goals as goal

pub returns : goal.returns
returns c = same_runs_again
