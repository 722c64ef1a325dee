use Rattle.std.proofs.Common.{◌∙◌}
use Rattle.std.specs.FinMap as finite
use Rattle.checkpoints.specs.MemoryParts.Canonical.{IsShown, with_pages, mapped_runs}
use Rattle.checkpoints.proofs.MemoryPartsLemmas.RunsAgain.{same_runs_again}
use Rattle.checkpoints.proofs.SameText.{filled_alike, runs_same}
use Rattle.checkpoints.proofs.memory_parts.laws.filling_keeps_the_runs.Goals as goal

pub returns : goal.returns
returns c = λ runs pages placed shown mapped.
    let m = mapped_runs finite.empty runs in
    runs_same (with_pages m pages) m (filled_alike IsShown (λ least page is. is.full) m pages 0 shown mapped) ∙ same_runs_again runs placed
