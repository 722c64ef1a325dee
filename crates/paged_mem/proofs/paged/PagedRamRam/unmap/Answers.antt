use Rattle.paged_mem.proofs.paged.PagedRamRam.unmap.Goals as goal
use Rattle.std.proofs.Common.{rules}

pub invariant_of-self-inside : goal.invariant_of-self-inside
invariant_of-self-inside c = (search rules, (search rules, (c.none-self-inside.ensures.held _ _, tt)))
