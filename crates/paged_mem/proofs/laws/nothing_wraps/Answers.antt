use Rattle.paged_mem.proofs.MemoryLaws.{maps-past}
use Rattle.paged_mem.proofs.laws.nothing_wraps.Goals as goal

pub returns : goal.returns
returns c = maps-past
