use Rattle.std.proofs.Common.{length, ◌≡◌, ℕ, ◌+◌, ◌≤◌, List, drop}
use Rattle.paged_mem.specs.Inside.Entries.{held_pages}
use Rattle.paged_mem.proofs.entries.count_held.Given as goal

abbrev pub invariant-loop-entry : goal.invariant-loop-entry
invariant-loop-entry l =
    (l.count ≤ l.entry-index)
    × ((pages : List ℕ) → length pages ≡ length l.entries
    → l.count + length (held_pages (drop l.entry-index pages) (drop l.entry-index l.entries)) ≡ length (held_pages pages l.entries))
