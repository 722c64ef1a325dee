use Rattle.std.proofs.Common.{◌∙◌, sym}
use Rattle.std.proofs.lemmas.List.{length-map}
use Rattle.mem_files.proofs.Changes.{names_len-is}
use Rattle.mem_files.proofs.table.FileTable.name_count.Goals as goal

pub returns : goal.returns
returns c = c.len.ensures.len ∙ sym (length-map c.self.inside.names.entries _) ∙ sym (names_len-is _ _ c.self.view_is c.self.invariant)
