use Rattle.std.specs.FinMap.{get-empty}
use Rattle.part_bench.proofs.stepping.hart_at_loop.Goals as goal

pub map_zero-requires-clause-free : goal.map_zero-requires-clause-free
map_zero-requires-clause-free g c = λ address from to. rw c.empty-ram.ensures (get-empty _ address)
