use Rattle.std.proofs.Common.{◌≡◌, ℕ, ◌+◌, ◌-◌, ◌<◌, ◌≤◌, length, get_or}
use Rattle.paged_mem.proofs.pages.row_from.Given as goal

abbrev pub invariant-loop-count : goal.invariant-loop-count
invariant-loop-count l =
    (1 ≤ l.count) × (l.start + l.count ≤ length l.pages) × ((k : ℕ) → k < l.count → get_or l.pages (l.start + k) 0 ≡ l.first + k)

abbrev pub decreases-loop-count : goal.decreases-loop-count
decreases-loop-count l = length l.pages - l.count
