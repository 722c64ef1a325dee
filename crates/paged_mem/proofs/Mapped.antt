-- The memory after pages in a row are put between others, or taken away from between them.
use Rattle.std.proofs.Common.{◌≡◌, ℕ, ◌+◌, ◌-◌, ◌*◌, ◌/◌, ◌%◌, ◌<◌, ◌≤◌, Option, None, Some, is_some, List, ◌++◌, length, get_or, replicate, refl, sym, ap, ◌∙◌, arith, ◌⊎◌, inl, inr, length-append}
use Rattle.std.specs.Option.{option_map}
use Rattle.std.specs.List.{range_with_len}
use Rattle.std.specs.FinMap.{get}
use Rattle.std.proofs.lemmas.Bool.{cases_lt}
use Rattle.std.proofs.lemmas.List.{get_or-replicate, length-replicate}
use Rattle.std.proofs.lemmas.List.FromFn.{length-range_with_len}
use Rattle.paged_mem.specs.Memory.{IsFree, with_bytes, without, zeros}
use Rattle.paged_mem.specs.Inside.Flat.{memory_of, page_index, Rises}
use Rattle.paged_mem.specs.Inside.Wholeness.{get-memory_of, contains-memory_of, get-with_bytes, get-with_bytes_below, get-with_bytes_above}
use Rattle.paged_mem.proofs.Maps.{same_memory, get-without, get-without_other}
use Rattle.paged_mem.proofs.PageIndices.{page_index-none}
use Rattle.paged_mem.proofs.InsertedRanges.{page_index-range, page_index-range_none, page_index-prefix, get_prefix, get_back, at_prefix, at_middle, at_back, at_end}

pub length-zeros : (count : ℕ) → length (zeros count) ≡ count
unfolding zeros
length-zeros count = length-replicate count 0

pub get_or-zeros : (count i : ℕ) → i < count → get_or (zeros count) i 0 ≡ 0
unfolding zeros
get_or-zeros count i below = get_or-replicate count i 0 0 below

module _ (prefix back bytes rest : List ℕ) (number count : ℕ) (full : length bytes ≡ 4096 * length prefix) (full_too : length rest ≡ 4096 * length back) where
  abbrev numbers : List ℕ
  numbers = range_with_len number count

  module _ (between : List ℕ) (full_between : length between ≡ 4096 * count) where
    middle : length between ≡ 4096 * length numbers
    middle = omega (arith, length-range_with_len number count)

    after : length (between ++ rest) ≡ 4096 * length (numbers ++ back)
    after = omega (arith, length-append between rest, length-append numbers back, length-range_with_len number count)

    -- elsewhere nothing changes
    elsewhere : (q : ℕ) → page_index numbers (q / 4096) ≡ None → get (memory_of (prefix ++ (numbers ++ back)) (bytes ++ (between ++ rest))) q ≡ get (memory_of (prefix ++ back) (bytes ++ rest)) q
    elsewhere q out = by_prefix (page_index prefix (q / 4096)) refl
      where
        by_prefix : (o : Option ℕ) → page_index prefix (q / 4096) ≡ o → get (memory_of (prefix ++ (numbers ++ back)) (bytes ++ (between ++ rest))) q ≡ get (memory_of (prefix ++ back) (bytes ++ rest)) q
        by_prefix (Some i) was = get_prefix prefix (numbers ++ back) bytes (between ++ rest) full after q i was ∙ sym (get_prefix prefix back bytes rest full full_too q i was)
        by_prefix None was = get_back prefix (numbers ++ back) bytes (between ++ rest) full after q was ∙ get_back numbers back between rest middle full_too q out ∙ sym (get_back prefix back bytes rest full full_too q was)

    -- among the new pages their bytes stand
    among : (q i : ℕ) → page_index prefix (q / 4096) ≡ None → page_index numbers (q / 4096) ≡ Some i → get (memory_of (prefix ++ (numbers ++ back)) (bytes ++ (between ++ rest))) q ≡ Some (get_or between (4096 * i + q % 4096) 0)
    among q i out at =
        get_back prefix (numbers ++ back) bytes (between ++ rest) full after q out
        ∙ get_prefix numbers back between rest middle full_too q i at
        ∙ get-memory_of numbers between q middle
        ∙ ap (λ o. option_map (λ s. get_or between s 0) (option_map (λ i. 4096 * i + q % 4096) o)) at

  whole : length (bytes ++ rest) ≡ 4096 * length (prefix ++ back)
  whole = omega (arith, length-append bytes rest, length-append prefix back)

  -- pages of zeros are put where no page is
  pub memory_of-mapped : IsFree (memory_of (prefix ++ back) (bytes ++ rest)) (4096 * number) (4096 * count) → memory_of (prefix ++ (numbers ++ back)) (bytes ++ (replicate (4096 * count) 0 ++ rest)) ≡ with_bytes (memory_of (prefix ++ back) (bytes ++ rest)) (4096 * number) (zeros (4096 * count))
  memory_of-mapped free =
      same_memory (memory_of (prefix ++ (numbers ++ back)) (bytes ++ (replicate (4096 * count) 0 ++ rest))) (with_bytes (memory_of (prefix ++ back) (bytes ++ rest)) (4096 * number) (zeros (4096 * count))) (λ q. at q (cases_lt q (4096 * number)) (cases_lt q (4096 * number + 4096 * count)))
    where
      at : (q : ℕ) → (q < 4096 * number) ⊎ (4096 * number ≤ q) → (q < 4096 * number + 4096 * count) ⊎ (4096 * number + 4096 * count ≤ q) → get (memory_of (prefix ++ (numbers ++ back)) (bytes ++ (replicate (4096 * count) 0 ++ rest))) q ≡ get (with_bytes (memory_of (prefix ++ back) (bytes ++ rest)) (4096 * number) (zeros (4096 * count))) q
      at q (inl below) o =
          elsewhere (replicate (4096 * count) 0) (length-replicate (4096 * count) 0) q (page_index-range_none number count (q / 4096) (inl (omega arith)))
          ∙ sym (get-with_bytes_below (memory_of (prefix ++ back) (bytes ++ rest)) (4096 * number) (zeros (4096 * count)) q below)
      at q (inr from) (inr above) =
          elsewhere (replicate (4096 * count) 0) (length-replicate (4096 * count) 0) q (page_index-range_none number count (q / 4096) (inr (omega arith)))
          ∙ sym (get-with_bytes_above (memory_of (prefix ++ back) (bytes ++ rest)) (4096 * number) (zeros (4096 * count)) q (omega (arith, length-zeros (4096 * count))))
      at q (inr from) (inl to) =
          among (replicate (4096 * count) 0) (length-replicate (4096 * count) 0) q (q / 4096 - number) (unplaced (page_index prefix (q / 4096)) refl) (page_index-range number count (q / 4096) (omega arith) (omega arith))
          ∙ ap Some (get_or-replicate (4096 * count) (4096 * (q / 4096 - number) + q % 4096) 0 0 (omega arith) ∙ sym (get_or-zeros (4096 * count) (q - 4096 * number) (omega arith)))
          ∙ sym (get-with_bytes (memory_of (prefix ++ back) (bytes ++ rest)) (4096 * number) (zeros (4096 * count)) q from (omega (arith, length-zeros (4096 * count))))
        where
          unplaced : (o : Option ℕ) → page_index prefix (q / 4096) ≡ o → page_index prefix (q / 4096) ≡ None
          unplaced None was = was
          unplaced (Some i) was =
              let held = contains-memory_of (prefix ++ back) (bytes ++ rest) whole q ∙ ap is_some (page_index-prefix prefix back (q / 4096) i was) in
              let gone = ap is_some (free q from to) in
              cc

  -- pages are taken away
  pub memory_of-unmapped : (between : List ℕ) → length between ≡ 4096 * count → Rises (prefix ++ (numbers ++ back)) → memory_of (prefix ++ back) (bytes ++ rest) ≡ without (memory_of (prefix ++ (numbers ++ back)) (bytes ++ (between ++ rest))) (4096 * number) (4096 * count)
  memory_of-unmapped between full_between rising =
      same_memory (memory_of (prefix ++ back) (bytes ++ rest)) (without (memory_of (prefix ++ (numbers ++ back)) (bytes ++ (between ++ rest))) (4096 * number) (4096 * count)) (λ q. at q (cases_lt q (4096 * number)) (cases_lt q (4096 * number + 4096 * count)))
    where
      at : (q : ℕ) → (q < 4096 * number) ⊎ (4096 * number ≤ q) → (q < 4096 * number + 4096 * count) ⊎ (4096 * number + 4096 * count ≤ q) → get (memory_of (prefix ++ back) (bytes ++ rest)) q ≡ get (without (memory_of (prefix ++ (numbers ++ back)) (bytes ++ (between ++ rest))) (4096 * number) (4096 * count)) q
      at q (inl below) o = sym (get-without_other _ (4096 * number) (4096 * count) q (inl below) ∙ elsewhere between full_between q (page_index-range_none number count (q / 4096) (inl (omega arith))))
      at q (inr from) (inr above) = sym (get-without_other _ (4096 * number) (4096 * count) q (inr above) ∙ elsewhere between full_between q (page_index-range_none number count (q / 4096) (inr (omega arith))))
      at q (inr from) (inl to) =
          get-memory_of (prefix ++ back) (bytes ++ rest) q whole
          ∙ ap (λ o. option_map (λ s. get_or (bytes ++ rest) s 0) (option_map (λ i. 4096 * i + q % 4096) o)) (page_index-none (prefix ++ back) (q / 4096) (λ k within e. apart k within e (cases_lt k (length prefix))))
          ∙ sym (get-without _ (4096 * number) (4096 * count) q from to)
        where
          there : get_or (prefix ++ (numbers ++ back)) (length prefix + (q / 4096 - number)) 0 ≡ q / 4096
          there = at_middle prefix back number count (q / 4096 - number) (omega arith) ∙ omega arith

          long : length (prefix ++ (numbers ++ back)) ≡ length prefix + (count + length back)
          long = omega (arith, length-append prefix (numbers ++ back), length-append numbers back, length-range_with_len number count)

          apart : (k : ℕ) → k < length (prefix ++ back) → get_or (prefix ++ back) k 0 ≡ q / 4096 → (k < length prefix) ⊎ (length prefix ≤ k) → ⊥
          apart k within e (inl below) =
              omega (arith, there, at_prefix prefix (numbers ++ back) k below, at_prefix prefix back k below, rising k (length prefix + (q / 4096 - number)) (omega arith) (omega (arith, long)))
          apart k within e (inr above) =
              let j = k - length prefix in
              let same : get_or (prefix ++ back) (length prefix + j) 0 ≡ get_or (prefix ++ back) k 0 = ap (λ k. get_or (prefix ++ back) k 0) (omega arith) in
              omega (arith, there, same, at_back prefix back j, at_end prefix back number count j, rising (length prefix + (q / 4096 - number)) (length prefix + (count + j)) (omega arith) (omega (arith, long, length-append prefix back)))
