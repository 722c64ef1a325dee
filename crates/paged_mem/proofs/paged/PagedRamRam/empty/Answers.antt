use Rattle.std.proofs.Common.{ap}
use Rattle.paged_mem.specs.Inside.Entries.{flat, held_pages}
use Rattle.paged_mem.specs.Inside.Flat.{memory_of}
use Rattle.paged_mem.proofs.Flats.{are_none}
use Rattle.paged_mem.proofs.paged.PagedRamRam.empty.Goals as goal

pub invariant_of-result : goal.invariant_of-result
invariant_of-result c = (are_none c.new.result.items c.new-2.result.items c.new.ensures.items c.new-2.ensures.items, (c.none.ensures c.new.result.items, (c.none-2.ensures.held _ _, tt)))

pub returns-clause-empty : goal.returns-clause-empty
unfolding memory_of
returns-clause-empty c = ap (λ pages. memory_of pages (flat c.new-2.result.items)) c.new.ensures.items

pub returns-clause-held : goal.returns-clause-held
unfolding held_pages
returns-clause-held c = ap (λ pages. held_pages pages c.new-2.result.items) c.new.ensures.items
