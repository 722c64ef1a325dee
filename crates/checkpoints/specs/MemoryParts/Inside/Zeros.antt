-- The memory of runs and pages, from the last run on.
use Rattle.std.specs.Prelude.{◌*◌, List, [], ◌∷◌}
use Rattle.std.specs.FinMap.{empty}
use Rattle.paged_mem.specs.Memory.{Memory, with_bytes, zeros}
use Rattle.save_format.specs.declared.state_text.parts.Run.{Run}
use Rattle.save_format.specs.StateText.StateText.{PageText}
use Rattle.checkpoints.specs.MemoryParts.Canonical.{with_pages}

unfoldable pub zero_runs : List Run → Memory
zero_runs [] = empty
zero_runs (run ∷ runs) = with_bytes (zero_runs runs) (4096 * run.first) (zeros (4096 * run.pages))

abbrev pub memory_from : List Run → List PageText → Memory
memory_from runs pages = with_pages (zero_runs runs) pages
