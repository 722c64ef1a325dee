use Rattle.std.proofs.Common.{length, ◌-◌, ◌≡◌, ◌+◌, ◌<◌, ◌≤◌, get_or}
use Rattle.paged_mem.proofs.rows.last_row.Given as goal

abbrev pub invariant-loop-start : goal.invariant-loop-start
invariant-loop-start l = (l.start ≤ l.known) × (l.known ≤ l.last) × (l.last < length l.pages) × (get_or l.pages l.known 0 + (l.last - l.known) ≡ get_or l.pages l.last 0)

abbrev pub decreases-loop-start : goal.decreases-loop-start
decreases-loop-start l = l.known - l.start
