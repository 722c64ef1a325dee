use Rattle.std.proofs.Common.{ap, ◌∙◌}
use Rattle.std.specs.Ordering.{nat_cmp}
use Rattle.std.specs.FinMap.{get, get-empty}
use Rattle.paged_mem.specs.Memory.{with_bytes, zeros}
use Rattle.linux_calls.proofs.Heaps.{IsHeapOf-fresh}
use Rattle.guest_tests.proofs.calls.Guest.new.Goals as goal

pub map_zero-requires-clause-free : goal.map_zero-requires-clause-free
map_zero-requires-clause-free c address from to = ap (λ m. get m address) c.empty-ram.ensures ∙ get-empty nat_cmp address

pub invariant_of-result : goal.invariant_of-result
invariant_of-result c = record {
  valid = IsHeapOf-fresh c.map_zero.new.self.bytes (c.in_ok-map_zero.ensures.ok ∙ ap (λ m. with_bytes m 65536 (zeros 8192)) c.empty-ram.ensures);
}
