use Rattle.std.proofs.Common.{ap, sym, ◌∙◌}
use Rattle.paged_mem.specs.Memory.{Memory}
use Rattle.checkpoints.specs.MemoryParts.Canonical.{with_pages, runs_of, pages_of}
use Rattle.checkpoints.proofs.MemoryPartsLemmas.Again.{same_again}
use Rattle.checkpoints.proofs.MemoryPartsLemmas.RunsAgain.{zero_runs_mapped}
use Rattle.checkpoints.proofs.memory_parts.laws.runs_and_pages_say_the_memory.Goals as goal

pub returns : goal.returns
returns c = λ m whole. ap (λ (v : Memory). with_pages v (pages_of m)) (sym (zero_runs_mapped (runs_of m))) ∙ same_again m whole
