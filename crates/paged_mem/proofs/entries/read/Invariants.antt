use Rattle.std.proofs.Common.{length, ◌-◌, ◌≡◌, ℕ, ◌+◌, ◌<◌, ◌≤◌, get_or}
use Rattle.paged_mem.specs.Inside.Entries.{flat}
use Rattle.paged_mem.proofs.entries.read.Given as goal

abbrev pub invariant-loop-done : goal.invariant-loop-done
invariant-loop-done l =
    (l.done ≤ length l.out) × (length l.out ≡ length l.fn.out)
    × ((k : ℕ) → k < l.done → get_or l.out k 0 ≡ get_or (flat l.entries) (l.start + k) 0)

abbrev pub decreases-loop-done : goal.decreases-loop-done
decreases-loop-done l = length l.initial.out - l.done
