use Rattle.std.proofs.Common.{◌∙◌, sym, ap, not, eqb}
use Rattle.mem_files.proofs.Changes.{is_open-is}
use Rattle.mem_files.proofs.table.FileTable.is_open.Goals as goal

pub returns : goal.returns
returns c = ap (λ n. not (eqb n 0)) (rw c.deref.ensures.value at c.count_of.ensures) ∙ sym (is_open-is _ _ c.self.view_is c.self.invariant c.args.number)
