use Rattle.std.proofs.Common.{◌∙◌, ap, sym}
use Rattle.std.specs.FinMap as fin
use Rattle.std.proofs.lemmas.List.{length-map}
use Rattle.mem_files.specs.Inside.Cells.{keyed}
use Rattle.guest_run.proofs.GivenLists.{len-given}
use Rattle.guest_run.proofs.given.GivenFiles.len.Goals as goal

pub returns : goal.returns
returns c =
    c.len.ensures.len ∙ sym (length-map c.self.inside.entries.entries _)
    ∙ sym (len-given (keyed (λ name. name.items) c.self.inside.entries.entries) c.self.invariant.sorted)
    ∙ ap fin.len c.self.view_is
