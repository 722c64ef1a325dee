-- The run of mapped pages that a row of pages is.
use Rattle.std.proofs.Common.{◌≡◌, ℕ, ◌+◌, ◌-◌, ◌*◌, ◌/◌, ◌%◌, ◌<◌, ◌≤◌, None, Some, List, length, get_or, ap, ◌∙◌, arith}
use Rattle.std.specs.Option.{option_map}
use Rattle.std.specs.FinMap.{get}
use Rattle.paged_mem.specs.Ram.{IsRun}
use Rattle.paged_mem.specs.Inside.Flat.{memory_of, page_index, slot, AreFlatPages, IsRank, IsRowAt}
use Rattle.paged_mem.specs.Inside.Wholeness.{get-memory_of}
use Rattle.paged_mem.proofs.PageIndices.{page_index-at, page_index-none, page_index-rank, never_falls}
use Rattle.paged_mem.proofs.Views.{maps-span}

module _ (pages bytes : List ℕ) (sound : AreFlatPages pages bytes) where
  pub get_absent : (q : ℕ) → page_index pages (q / 4096) ≡ None → get (memory_of pages bytes) q ≡ None
  get_absent q none = get-memory_of pages bytes q sound.full ∙ ap (λ o. option_map (λ s. get_or bytes s 0) (option_map (λ i. 4096 * i + q % 4096) o)) none

  pub no_run : (at : ℕ) → IsRank pages (at / 4096) (length pages) → (address : ℕ) → at / 4096 * 4096 ≤ address → get (memory_of pages bytes) address ≡ None
  no_run at rank address from = get_absent address (page_index-none pages (address / 4096) (λ k within e. omega (arith, rank.below k within)))

  pub run_of_row : (at start first count : ℕ) → IsRowAt pages (at / 4096) start first count → IsRun (memory_of pages bytes) at (4096 * first) count
  run_of_row at start first count row = record {
    aligned = omega arith;
    from = omega (arith, begins, row.rank.above start (omega arith) within);
    some = row.some;
    mapped = maps-span pages bytes sound.full (4096 * first) (4096 * count) (Some (4096 * start)) (omega (arith, row.within), there);
    next = get_absent (4096 * first + 4096 * count) (ap (page_index pages) (let n : (4096 * first + 4096 * count) / 4096 ≡ first + count = omega arith in n) ∙ page_index-rank pages (first + count) (start + count) sound.rising after row.ends);
    before = λ address low high. get_absent address (page_index-rank pages (address / 4096) start sound.rising (gap (address / 4096) (omega arith) (omega arith)) (λ _ e. omega (arith, begins)));
    low = omega (arith, last, sound.low (start + (count - 1)) (omega (arith, row.within, row.some)));
  }
    where
      within : start < length pages
      within = omega (arith, row.within, row.some)

      begins : get_or pages start 0 ≡ first
      begins = ap (λ k. get_or pages k 0) (let s : start ≡ start + 0 = omega arith in s) ∙ row.row 0 row.some ∙ omega arith

      last : get_or pages (start + (count - 1)) 0 ≡ first + (count - 1)
      last = row.row (count - 1) (omega (arith, row.some))

      there : (k : ℕ) → k < 4096 * count → slot pages (4096 * first + k) ≡ Some (4096 * start + k)
      there k below =
          let number : (4096 * first + k) / 4096 ≡ first + k / 4096 = omega arith in
          ap (λ n. option_map (λ i. 4096 * i + (4096 * first + k) % 4096) (page_index pages n)) number
          ∙ ap (option_map (λ i. 4096 * i + (4096 * first + k) % 4096)) (page_index-at pages sound.rising (first + k / 4096) (start + k / 4096) (omega (arith, row.within)) (row.row (k / 4096) (omega arith)))
          ∙ ap Some (omega arith)

      after : IsRank pages (first + count) (start + count)
      after = record {
        within = row.within;
        below = λ k below. omega (arith, last, row.some, never_falls pages sound.rising k (start + (count - 1)) (omega (arith, row.some)) (omega (arith, row.within, row.some)));
        above = λ k from in_range. omega (arith, last, row.some, sound.rising (start + (count - 1)) k (omega (arith, row.some)) in_range);
      }

      gap : (n : ℕ) → at / 4096 ≤ n → n < first → IsRank pages n start
      gap n low high = record {
        within = row.rank.within;
        below = λ k below. omega (arith, row.rank.below k below);
        above = λ k from in_range. omega (arith, begins, never_falls pages sound.rising start k from in_range);
      }
