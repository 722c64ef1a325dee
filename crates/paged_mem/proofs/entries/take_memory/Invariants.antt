use Rattle.std.proofs.Common.{length, ◌-◌, ◌≡◌, ℕ, ◌+◌, ◌<◌, ◌≤◌, get_or, IsSome, None, List}
use Rattle.paged_mem.specs.Inside.Entries.{AreFull, flat, held_pages}
use Rattle.paged_mem.proofs.entries.take_memory.Given as goal

abbrev pub invariant-loop-index : goal.invariant-loop-index
invariant-loop-index l =
    (length l.entries ≡ length l.fn.entries) × AreFull l.entries × (flat l.entries ≡ flat l.fn.entries)
    × ((pages : List ℕ) → length (held_pages pages l.entries) ≤ length (held_pages pages l.fn.entries) + (l.index - l.first))
    × ((k : ℕ) → l.first ≤ k → k < l.index → IsSome (get_or l.entries k None))
    × ((k : ℕ) → l.index ≤ k → get_or l.entries k None ≡ get_or l.fn.entries k None)
    × ((pages : List ℕ) → length (held_pages pages l.fn.entries) ≤ length (held_pages pages l.entries))
