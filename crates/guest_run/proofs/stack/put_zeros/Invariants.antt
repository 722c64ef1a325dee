use Rattle.std.proofs.Common.{◌≡◌, ◌++◌}
use Rattle.paged_mem.specs.Memory.{zeros}
use Rattle.guest_run.proofs.stack.put_zeros.Given as goal

abbrev pub invariant-loop-index : goal.invariant-loop-index
invariant-loop-index l = l.bytes.items ≡ l.fn.bytes.items ++ zeros l.index
