use Rattle.std.proofs.Common.{◌≡◌, ◌++◌, None, replicate}
use Rattle.paged_mem.proofs.gaps.add_entries.Given as goal

abbrev pub invariant-loop-added : goal.invariant-loop-added
invariant-loop-added l = l.entries.items ≡ l.fn.entries.items ++ replicate l.added None
