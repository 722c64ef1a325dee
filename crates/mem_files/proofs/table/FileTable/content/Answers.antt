use Rattle.std.proofs.Common.{◌∙◌, sym, ap, Some, None, unwrap_or, []}
use Rattle.mem_files.proofs.Changes.{content-is}
use Rattle.mem_files.proofs.table.FileTable.content.Goals as goal

pub returns-in-Some : goal.returns-in-Some
returns-in-Some c =
    sym (content-is _ _ c.self.view_is c.self.invariant c.args.number (Some c.in-Some.file.now) (rw c.deref.ensures.value at c.in-Some.ensures) ∙ ap (λ o. unwrap_or o []) c.content.ensures)

pub returns-in-None : goal.returns-in-None
returns-in-None c = sym (content-is _ _ c.self.view_is c.self.invariant c.args.number None (rw c.deref.ensures.value at c.in-None.ensures))
