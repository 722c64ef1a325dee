use Rattle.std.proofs.Common.{ap}
use Rattle.paged_mem.specs.Inside.Flat.{memory_of}
use Rattle.paged_mem.proofs.flat.FlatRamRam.empty.Goals as goal

pub returns : goal.returns
unfolding memory_of
returns c = ap (λ pages. memory_of pages c.new-2.result.items) c.new.ensures.items
