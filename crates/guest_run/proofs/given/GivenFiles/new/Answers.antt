use Rattle.std.proofs.Common.{ap, ◌∙◌}
use Rattle.std.specs.FinMap.{from_sorted}
use Rattle.mem_files.specs.Inside.Cells.{keyed}
use Rattle.guest_run.proofs.GivenLists.{map-none}
use Rattle.guest_run.proofs.given.GivenFiles.new.Goals as goal

pub returns : goal.returns
returns c = ap (λ es. from_sorted (keyed (λ name. name.items) es)) c.new.ensures.empty ∙ map-none
