use Rattle.std.proofs.Common.{◌∙◌, ap, sym, is_some}
use Rattle.std.specs.FinMap.{contains_key}
use Rattle.mem_files.specs.Inside.Cells.{keyed}
use Rattle.mem_files.proofs.Directory.{find-keyed}
use Rattle.guest_run.proofs.GivenLists.{get-given}
use Rattle.guest_run.proofs.given.GivenFiles.holds.Goals as goal

pub returns : goal.returns
returns c =
    c.contains_key.ensures
    ∙ ap is_some (sym (find-keyed (λ name. name.items) c.args.name.now c.self.inside.entries.entries))
    ∙ ap is_some (sym (get-given (keyed (λ name. name.items) c.self.inside.entries.entries) c.args.name.now c.self.invariant.sorted))
    ∙ ap (λ files. contains_key files c.args.name.now) c.self.view_is
