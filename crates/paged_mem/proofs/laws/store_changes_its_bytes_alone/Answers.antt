use Rattle.paged_mem.proofs.MemoryLaws.{get-writes_other}
use Rattle.paged_mem.proofs.laws.store_changes_its_bytes_alone.Goals as goal

pub returns : goal.returns
returns c = get-writes_other
