use Rattle.mem_files.proofs.Changes.{free_open_file-is}
use Rattle.mem_files.proofs.table.FileTable.free_open_file.Goals as goal

pub returns : goal.returns
returns c = free_open_file-is _ _ c.self.view_is c.self.invariant c.lowest_unused.result c.lowest_unused.ensures.unused c.lowest_unused.ensures.used
