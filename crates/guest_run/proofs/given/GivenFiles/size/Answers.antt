use Rattle.mem_files.specs.Inside.Cells.{keyed}
use Rattle.guest_run.proofs.GivenLists.{size-given}
use Rattle.guest_run.proofs.given.GivenFiles.size.Goals as goal

pub returns : goal.returns
returns c = size-given (keyed (λ name. name.items) c.self.inside.entries.entries) _ _ c.self.invariant c.self.view_is
