use Rattle.std.proofs.Common.{length, ◌-◌, ◌≡◌, ◌+◌, ◌<◌, ◌≤◌, get_or}
use Rattle.paged_mem.proofs.rows.row_at.Given as goal

abbrev pub invariant-loop-end : goal.invariant-loop-end
invariant-loop-end l = (l.start ≤ l.known) × (l.known < l.end) × (l.end ≤ length l.pages) × (get_or l.pages l.known 0 ≡ l.first + (l.known - l.start))

abbrev pub decreases-loop-end : goal.decreases-loop-end
decreases-loop-end l = l.end - l.known
