-- Pages and entries after pages that hold no bytes were put among them, and after pages were taken away.
use Rattle.std.proofs.Common.{◌≡◌, ℕ, ◌+◌, ◌*◌, ◌/◌, ◌%◌, ◌^◌, ◌≤◌, true, None, List, ◌++◌, length, take, drop, replicate, ap, subst, sym, ◌∙◌, arith, length-append, length-take, length-drop}
use Rattle.std.specs.List.{range_with_len}
use Rattle.std.proofs.lemmas.List.FromFn.{length-range_with_len}
use Rattle.ddc_base.specs.Limits.{address_end}
use Rattle.paged_mem.specs.Memory.{IsFree, maps, with_bytes, without, zeros}
use Rattle.paged_mem.specs.Inside.Flat.{memory_of, IsRank}
use Rattle.paged_mem.specs.Inside.Entries.{Entry, ArePages, AreFull, flat, held_pages}
use Rattle.paged_mem.proofs.Flats.{AreFull-absent, AreFull-append, AreFull-drop, AreFull-take, flat-closed, flat-opened, held_pages-closed, held_pages-opened, length-absent}
use Rattle.paged_mem.proofs.Moves.{memory_after_map, memory_after_unmap, sound_after_map, sound_after_unmap, within_before_unmap}
use Rattle.paged_mem.proofs.InsertedRanges.{gap_closed}

module _ (pages : List ℕ) (entries : List Entry) (shown : List ℕ) (are : ArePages pages entries) (first count at : ℕ) (aligned : first % 4096 ≡ 0)
    (same : shown ≡ pages) (rank : IsRank shown (first / 4096) at) where
  pub within : at ≤ length entries
  within = omega (arith, rank.within, ap length same, are.long)

  module _ (low : first + 4096 * count ≤ address_end) (free : IsFree (memory_of pages (flat entries)) first (4096 * count)) (new_pages : List ℕ) (new : List Entry)
      (numbered : new_pages ≡ take at pages ++ (range_with_len (first / 4096) count ++ drop at pages))
      (opened : new ≡ take at entries ++ (replicate count None ++ drop at entries)) where
    pub are_opened : ArePages new_pages new
    are_opened = record {
      sound = sound_after_map pages (flat entries) shown are.sound first count at aligned same rank low free new_pages (flat new) numbered
          (ap flat opened ∙ flat-opened entries are.full at count within);
      long = omega (
        arith,
        ap length numbered,
        ap length opened,
        are.long,
        length-append (take at pages) (range_with_len (first / 4096) count ++ drop at pages),
        length-append (range_with_len (first / 4096) count) (drop at pages),
        length-append (take at entries) (replicate count None ++ drop at entries),
        length-append (replicate count None) (drop at entries),
        length-range_with_len (first / 4096) count,
        length-absent count,
        length-take at pages,
        length-take at entries,
        length-drop at pages,
        length-drop at entries,
      );
      full = subst AreFull (sym opened) (AreFull-append (take at entries) (replicate count None ++ drop at entries) (AreFull-take at entries are.full)
          (AreFull-append (replicate count None) (drop at entries) (AreFull-absent count) (AreFull-drop at entries are.full)));
    }

    pub held_opened : held_pages new_pages new ≡ held_pages pages entries
    held_opened =
        ap (λ ps. held_pages ps new) numbered ∙ ap (held_pages (take at pages ++ (range_with_len (first / 4096) count ++ drop at pages))) opened
        ∙ held_pages-opened pages entries are.long at count (range_with_len (first / 4096) count) (length-range_with_len (first / 4096) count)

    pub memory_opened : memory_of new_pages (flat new) ≡ with_bytes (memory_of pages (flat entries)) first (zeros (4096 * count))
    memory_opened =
        memory_after_map pages (flat entries) shown are.sound first count at aligned same rank low free new_pages (flat new) numbered
        (ap flat opened ∙ flat-opened entries are.full at count within)

  -- a gap that was closed again
  pub closed_again : (wide new : List Entry) → wide ≡ take at entries ++ (replicate count None ++ drop at entries)
      → new ≡ take at wide ++ drop (at + count) wide → new ≡ entries
  closed_again wide new opened closed =
      closed ∙ ap (λ xs. take at xs ++ drop (at + count) xs) opened ∙ gap_closed entries (replicate count None) at count within (length-absent count)

  module _ (there : maps (memory_of pages (flat entries)) first (4096 * count) ≡ true) where
    pub within_removed : at + count ≤ length pages
    within_removed = within_before_unmap pages (flat entries) shown are.sound first count at aligned same rank there

    module _ (new_pages : List ℕ) (new : List Entry) (removed : new_pages ≡ take at pages ++ drop (at + count) pages) (closed : new ≡ take at entries ++ drop (at + count) entries) where
      bytes_closed : flat new ≡ take (4096 * at) (flat entries) ++ drop (4096 * at + 4096 * count) (flat entries)
      bytes_closed = ap flat closed ∙ flat-closed entries are.full at count (omega (arith, within_removed, are.long))

      pub are_closed : ArePages new_pages new
      are_closed = record {
        sound = sound_after_unmap pages (flat entries) shown are.sound first count at aligned same rank there new_pages (flat new) removed bytes_closed;
        long = omega (
          arith,
          ap length removed,
          ap length closed,
          are.long,
          length-append (take at pages) (drop (at + count) pages),
          length-append (take at entries) (drop (at + count) entries),
          length-take at pages,
          length-take at entries,
          length-drop (at + count) pages,
          length-drop (at + count) entries,
        );
        full = subst AreFull (sym closed) (AreFull-append (take at entries) (drop (at + count) entries) (AreFull-take at entries are.full) (AreFull-drop (at + count) entries are.full));
      }

      pub held_closed : length (held_pages new_pages new) ≤ length (held_pages pages entries)
      held_closed =
          let is : held_pages new_pages new ≡ held_pages (take at pages ++ drop (at + count) pages) (take at entries ++ drop (at + count) entries) =
          ap (λ ps. held_pages ps new) removed ∙ ap (held_pages (take at pages ++ drop (at + count) pages)) closed in
          omega (arith, ap length is, held_pages-closed pages entries are.long at count)

      pub memory_closed : memory_of new_pages (flat new) ≡ without (memory_of pages (flat entries)) first (4096 * count)
      memory_closed = memory_after_unmap pages (flat entries) shown are.sound first count at aligned same rank there new_pages (flat new) removed bytes_closed
