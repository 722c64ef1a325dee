use Rattle.paged_mem.proofs.MemoryLaws.{maps-zeros, get-zeros}
use Rattle.paged_mem.proofs.laws.mapped_pages_read_zero.Goals as goal

pub returns : goal.returns
returns c = record { mapped = maps-zeros; zero = get-zeros }
