use Rattle.std.proofs.Common.{◌∙◌, sym, ap, is_some}
use Rattle.mem_files.specs.Inside.Stored.{name_in}
use Rattle.mem_files.proofs.Changes.{is_named-is}
use Rattle.mem_files.proofs.table.FileTable.is_named.Goals as goal

pub returns-in-Some : goal.returns-in-Some
returns-in-Some c =
    c.is_named.ensures ∙ ap (λ cell. is_some (name_in cell)) (rw c.deref.ensures.value at c.in-Some.ensures) ∙ sym (is_named-is _ _ c.self.view_is c.self.invariant c.args.number)

pub returns-in-None : goal.returns-in-None
returns-in-None c = ap (λ cell. is_some (name_in cell)) (rw c.deref.ensures.value at c.in-None.ensures) ∙ sym (is_named-is _ _ c.self.view_is c.self.invariant c.args.number)
