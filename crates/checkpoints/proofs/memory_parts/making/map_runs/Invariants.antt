use Rattle.std.specs.FinMap.{empty}
use Rattle.checkpoints.specs.MemoryParts.Canonical.{mapped_runs}
use Rattle.checkpoints.proofs.MemoryPartsLemmas.Mapping.{IsReady}
use Rattle.checkpoints.proofs.memory_parts.making.map_runs.Given as goal

abbrev pub invariant-loop-run : goal.invariant-loop-run
invariant-loop-run g l = IsReady (g.R.Ram.bytes l.ram) (mapped_runs empty l.runs) l.runs l.run-index l.least
