use Rattle.mem_files.proofs.Changes.{free_number-is}
use Rattle.mem_files.proofs.table.FileTable.free_number.Goals as goal

pub returns : goal.returns
returns c = free_number-is _ _ c.self.view_is c.self.invariant c.lowest_unused.result c.lowest_unused.ensures.unused c.lowest_unused.ensures.used
