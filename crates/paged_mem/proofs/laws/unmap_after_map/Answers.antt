use Rattle.paged_mem.proofs.MemoryLaws.{without-zeros}
use Rattle.paged_mem.proofs.laws.unmap_after_map.Goals as goal

pub returns : goal.returns
returns c = without-zeros
