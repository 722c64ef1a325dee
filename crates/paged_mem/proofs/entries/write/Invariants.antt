use Rattle.std.proofs.Common.{length, ◌-◌, ◌≡◌, ℕ, ◌≤◌, get_or, take, is_some, None}
use Rattle.paged_mem.specs.Inside.Entries.{AreFull, flat}
use Rattle.paged_mem.specs.Inside.Flat.{overwritten}
use Rattle.paged_mem.proofs.entries.write.Given as goal

abbrev pub invariant-loop-done : goal.invariant-loop-done
invariant-loop-done l =
    (l.done ≤ length l.source) × (length l.entries ≡ length l.fn.entries) × AreFull l.entries
    × (flat l.entries ≡ overwritten (flat l.fn.entries) l.start (take l.done l.source))
    × ((k : ℕ) → is_some (get_or l.entries k None) ≡ is_some (get_or l.fn.entries k None))

abbrev pub decreases-loop-done : goal.decreases-loop-done
decreases-loop-done l = length l.source - l.done
