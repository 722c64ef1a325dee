use Rattle.paged_mem.proofs.MemoryLaws.{reads-writes}
use Rattle.paged_mem.proofs.laws.load_after_store.Goals as goal

pub returns : goal.returns
returns c = reads-writes
