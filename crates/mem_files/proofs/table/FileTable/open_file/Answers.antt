use Rattle.std.proofs.Common.{◌∙◌, sym}
use Rattle.mem_files.proofs.Changes.{open_file-is}
use Rattle.mem_files.proofs.table.FileTable.open_file.Goals as goal

pub returns : goal.returns
returns c = c.copied.ensures ∙ rw c.deref.ensures.value at c.cell.ensures ∙ sym (open_file-is _ _ c.self.view_is c.self.invariant c.args.fd)
