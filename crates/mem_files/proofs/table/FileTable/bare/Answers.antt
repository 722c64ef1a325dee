use Rattle.mem_files.proofs.First.{bare_parts-consistent, bare_parts-world}
use Rattle.mem_files.proofs.table.FileTable.bare.Goals as goal

pub invariant_of-result : goal.invariant_of-result
invariant_of-result c =
    rw (c.new.ensures.empty, c.new-2.ensures.items, c.new-4.ensures.items, c.new-6.ensures.items, c.new-7.ensures.items, c.new-8.ensures.items)
    (bare_parts-consistent c.in_ok-new.field-0 c.in_ok-new-2.field-0 c.in_ok-new.ensures c.in_ok-new-2.ensures)

pub returns : goal.returns
returns c =
    rw (c.new.ensures.empty, c.new-2.ensures.items, c.new-4.ensures.items, c.new-7.ensures.items, c.new-8.ensures.items)
    (bare_parts-world c.in_ok-new.field-0 c.in_ok-new-2.field-0)
