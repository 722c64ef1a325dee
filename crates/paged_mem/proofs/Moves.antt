-- That pages stay sound, and what their memory is, when pages are mapped at their rank or taken away.
use Rattle.std.proofs.Common.{◌≡◌, ◌≢◌, ℕ, ◌+◌, ◌-◌, ◌*◌, ◌/◌, ◌%◌, ◌^◌, ◌<◌, ◌≤◌, true, Option, None, Some, is_some, IsSome, add-zero, List, ◌++◌, length, get_or, take, drop, replicate, refl, sym, ap, ◌∙◌, subst, arith, ◌⊎◌, inl, inr, length-append, length-take, length-drop}
use Rattle.std.specs.List.{range_with_len}
use Rattle.std.proofs.lemmas.Bool.{cases_eq, cases_lt, cases_order}
use Rattle.std.proofs.lemmas.Grind.{same_number_lists}
use Rattle.std.proofs.lemmas.List.{get_or-take, get_or-drop, take-append-drop, drop-drop, length-replicate, get_or_append_left, get_or-append-add, get_or-replicate, get_or_past}
use Rattle.std.proofs.lemmas.List.FromFn.{length-range_with_len, get_or-range_with_len}
use Rattle.ddc_base.specs.Limits.{address_end, page_number_end}
use Rattle.paged_mem.specs.Memory.{IsFree, maps, bytes_at, with_bytes, without, zeros}
use Rattle.paged_mem.specs.Inside.Flat.{memory_of, page_index, Rises, AreLow, IsRank, AreFlatPages}
use Rattle.paged_mem.specs.Inside.Wholeness.{page_index-some, contains-memory_of}
use Rattle.paged_mem.proofs.Maps.{get_in_bytes_at}
use Rattle.paged_mem.proofs.PageIndices.{page_index-at, in_a_row}
use Rattle.paged_mem.proofs.InsertedRanges.{Rises-append, AreLow-append, Rises-range, AreLow-range, Part, part_of}
use Rattle.paged_mem.proofs.InsertedRanges.Part.{in_prefix, in_back}
use Rattle.paged_mem.proofs.Mapped.{memory_of-mapped, memory_of-unmapped}

Rises-take : (pages : List ℕ) (at : ℕ) → at ≤ length pages → Rises pages → Rises (take at pages)
Rises-take pages at within rising i j below in_range =
    let long = length-take at pages in
    omega (arith, get_or-take at pages i 0 (omega arith), get_or-take at pages j 0 (omega arith), rising i j below (omega arith))

Rises-drop : (pages : List ℕ) (at : ℕ) → Rises pages → Rises (drop at pages)
Rises-drop pages at rising i j below in_range =
    let long = length-drop at pages in
    omega (arith, get_or-drop at pages i 0, get_or-drop at pages j 0, rising (at + i) (at + j) (omega arith) (omega arith))

AreLow-take : (pages : List ℕ) (at : ℕ) → at ≤ length pages → AreLow pages → AreLow (take at pages)
AreLow-take pages at within low i in_range =
    let long = length-take at pages in
    omega (arith, get_or-take at pages i 0 (omega arith), low i (omega arith))

AreLow-drop : (pages : List ℕ) (at : ℕ) → AreLow pages → AreLow (drop at pages)
AreLow-drop pages at low i in_range =
    let long = length-drop at pages in
    omega (arith, get_or-drop at pages i 0, low (at + i) (omega arith))

abbrev IsSmall : List ℕ → Type 0
IsSmall bytes = (i : ℕ) → get_or bytes i 0 < 256

small_append : (xs ys : List ℕ) → IsSmall xs → IsSmall ys → IsSmall (xs ++ ys)
small_append xs ys first second i = by_order (cases_lt i (length xs))
  where
    by_order : (i < length xs) ⊎ (length xs ≤ i) → get_or (xs ++ ys) i 0 < 256
    by_order (inl below) = omega (arith, get_or_append_left xs ys 0 i below, first i)
    by_order (inr from) =
        let is : get_or (xs ++ ys) i 0 ≡ get_or (xs ++ ys) (length xs + (i - length xs)) 0 = ap (λ k. get_or (xs ++ ys) k 0) (omega arith) in
        omega (arith, is, get_or-append-add xs ys (i - length xs) 0, second (i - length xs))

small_zeros : (count : ℕ) → IsSmall (replicate count 0)
small_zeros count i = by_order (cases_lt i count)
  where
    by_order : (i < count) ⊎ (count ≤ i) → get_or (replicate count 0) i 0 < 256
    by_order (inl below) = omega (arith, get_or-replicate {A = ℕ} count i 0 0 below)
    by_order (inr past) = omega (arith, get_or_past {X = ℕ} (replicate count 0) i 0 (omega (arith, length-replicate {A = ℕ} count 0)))

small_take : (n : ℕ) (xs : List ℕ) → IsSmall xs → IsSmall (take n xs)
small_take n xs small i = by_order (cases_lt i n)
  where
    by_order : (i < n) ⊎ (n ≤ i) → get_or (take n xs) i 0 < 256
    by_order (inl below) = omega (arith, get_or-take n xs i 0 below, small i)
    by_order (inr past) = omega (arith, get_or_past (take n xs) i 0 (omega (arith, length-take n xs)))

small_drop : (n : ℕ) (xs : List ℕ) → IsSmall xs → IsSmall (drop n xs)
small_drop n xs small i = omega (arith, get_or-drop n xs i 0, small (n + i))

-- pages of zeros at their rank
module _ (pages bytes : List ℕ) (sound : AreFlatPages pages bytes) (number count at : ℕ) (rank : IsRank pages number at) where
  abbrev pub mapped_pages : List ℕ
  mapped_pages = take at pages ++ (range_with_len number count ++ drop at pages)

  abbrev pub mapped_bytes : List ℕ
  mapped_bytes = take (4096 * at) bytes ++ (replicate (4096 * count) 0 ++ drop (4096 * at) bytes)

  prefix_full : length (take (4096 * at) bytes) ≡ 4096 * length (take at pages)
  prefix_full = omega (arith, length-take (4096 * at) bytes, length-take at pages, sound.full, rank.within)

  back_full : length (drop (4096 * at) bytes) ≡ 4096 * length (drop at pages)
  back_full = omega (arith, length-drop (4096 * at) bytes, length-drop at pages, sound.full, rank.within)

  module _ (low : number + count ≤ page_number_end) (free : IsFree (memory_of pages bytes) (4096 * number) (4096 * count)) where
    pub memory_of-mapped_at : memory_of mapped_pages mapped_bytes ≡ with_bytes (memory_of pages bytes) (4096 * number) (zeros (4096 * count))
    memory_of-mapped_at =
        let same_pages = take-append-drop at pages in
        let same_bytes = take-append-drop (4096 * at) bytes in
        let same : memory_of (take at pages ++ drop at pages) (take (4096 * at) bytes ++ drop (4096 * at) bytes) ≡ memory_of pages bytes = ap (λ p. memory_of p (take (4096 * at) bytes ++ drop (4096 * at) bytes)) same_pages ∙ ap (memory_of pages) same_bytes in
        memory_of-mapped (take at pages) (drop at pages) (take (4096 * at) bytes) (drop (4096 * at) bytes) number count prefix_full back_full (subst (λ m. IsFree m (4096 * number) (4096 * count)) (sym same) free)
        ∙ ap (λ m. with_bytes m (4096 * number) (zeros (4096 * count))) same

    past : (k : ℕ) → at ≤ k → k < length pages → number + count ≤ get_or pages k 0
    past k from within = by_order (cases_lt (get_or pages k 0) (number + count))
      where
        by_order : (get_or pages k 0 < number + count) ⊎ (number + count ≤ get_or pages k 0) → number + count ≤ get_or pages k 0
        by_order (inr le) = le
        by_order (inl lt) =
            let q = 4096 * get_or pages k 0 in
            let same : q / 4096 ≡ get_or pages k 0 = omega arith in
            let held = contains-memory_of pages bytes sound.full q ∙ ap is_some (ap (page_index pages) same ∙ page_index-at pages sound.rising (get_or pages k 0) k within refl) in
            let gone = ap is_some (free q (omega (arith, rank.above k from within)) (omega arith)) in
            cc

    beyond : (i j : ℕ) → i < length (take at pages) → Part (range_with_len number count) (drop at pages) j → get_or (take at pages) i 0 < get_or (range_with_len number count ++ drop at pages) j 0
    beyond i j a (in_prefix b is) =
        let long = length-take at pages in
        omega (arith, is, get_or-take at pages i 0 (omega arith), rank.below i (omega arith), get_or-range_with_len number count j 0 (omega (arith, length-range_with_len number count)))
    beyond i j a (in_back k e b is) =
        let long = length-take at pages in
        omega (arith, is, get_or-take at pages i 0 (omega arith), rank.below i (omega arith), get_or-drop at pages k 0, past (at + k) (omega arith) (omega (arith, length-drop at pages)))

    pub AreFlatPages-mapped : AreFlatPages mapped_pages mapped_bytes
    AreFlatPages-mapped =
        let short = length-range_with_len number count in
        let prefix_long = length-take at pages in
        let back_long = length-drop at pages in
        record {
          rising = Rises-append (take at pages) (range_with_len number count ++ drop at pages) (Rises-take pages at rank.within sound.rising)
              (Rises-append (range_with_len number count) (drop at pages) (Rises-range number count) (Rises-drop pages at sound.rising)
              (λ i j a b. omega (arith, get_or-range_with_len number count i 0 (omega arith), get_or-drop at pages j 0, past (at + j) (omega arith) (omega arith))))
              (λ i j a b. beyond i j a (part_of (range_with_len number count) (drop at pages) j b));
          low = AreLow-append (take at pages) (range_with_len number count ++ drop at pages) (AreLow-take pages at rank.within sound.low)
              (AreLow-append (range_with_len number count) (drop at pages) (AreLow-range number count low) (AreLow-drop pages at sound.low));
          full = omega (arith, prefix_full, back_full, length-append (take at pages) (range_with_len number count ++ drop at pages), length-append (range_with_len number count) (drop at pages), length-append (take (4096 * at) bytes) (replicate (4096 * count) 0 ++ drop (4096 * at) bytes), length-append (replicate (4096 * count) 0) (drop (4096 * at) bytes), length-replicate {A = ℕ} (4096 * count) 0);
          small = small_append (take (4096 * at) bytes) (replicate (4096 * count) 0 ++ drop (4096 * at) bytes) (small_take (4096 * at) bytes sound.small)
              (small_append (replicate (4096 * count) 0) (drop (4096 * at) bytes) (small_zeros (4096 * count)) (small_drop (4096 * at) bytes sound.small));
        }

-- pages that are there, in a row from a number on, stand from its rank on
module _ (pages bytes : List ℕ) (sound : AreFlatPages pages bytes) (number count at : ℕ) (rank : IsRank pages number at) (there : maps (memory_of pages bytes) (4096 * number) (4096 * count) ≡ true) where
  present : (k : ℕ) → k < count → IsSome (page_index pages (number + k))
  present k below = found (bytes_at (memory_of pages bytes) (4096 * number) (4096 * count)) refl there
    where
      found : (o : Option (List ℕ)) → bytes_at (memory_of pages bytes) (4096 * number) (4096 * count) ≡ o → is_some o ≡ true → IsSome (page_index pages (number + k))
      found None was e = cc
      found (Some held) was e =
          let q = 4096 * number + 4096 * k in
          let same : q / 4096 ≡ number + k = omega arith in
          sym (ap (λ n. is_some (page_index pages n)) same) ∙ sym (contains-memory_of pages bytes sound.full q) ∙ ap is_some (get_in_bytes_at (memory_of pages bytes) (4096 * number) (4096 * count) held was q (omega arith) (omega arith))

  first_at : 0 < count → page_index pages number ≡ Some at
  first_at some = found (page_index pages number) refl (subst (λ n. IsSome (page_index pages n)) (add-zero number) (present 0 some))
    where
      found : (o : Option ℕ) → page_index pages number ≡ o → IsSome o → o ≡ Some at
      found None was e = cc
      found (Some i) was e = ap Some (by_order (page_index-some pages number i was) (cases_order i at))
        where
          by_order : (i < length pages) × (get_or pages i 0 ≡ number) → (i ≡ at) ⊎ ((i < at) ⊎ (at < i)) → i ≡ at
          by_order is (inl same) = same
          by_order is (inr (inl below)) = absurd (omega (arith, is.1, rank.below i below))
          by_order is (inr (inr above)) = absurd (omega (arith, is.0, is.1, rank.above at (omega arith) (omega (arith, is.0)), sound.rising at i above is.0))

  stands : (k : ℕ) → k < count → (at + k < length pages) × (get_or pages (at + k) 0 ≡ number + k)
  stands k below = page_index-some pages (number + k) (at + k) (in_a_row pages sound.rising number at (first_at (omega arith)) k (λ j le. present j (omega arith)))

  pub removed_within : at + count ≤ length pages
  removed_within = by_cases (cases_eq count 0)
    where
      by_cases : (count ≡ 0) ⊎ (count ≢ 0) → at + count ≤ length pages
      by_cases (inl none) = omega (arith, rank.within)
      by_cases (inr some) = omega (arith, (stands (count - 1) (omega arith)).0)

  abbrev pub left_pages : List ℕ
  left_pages = take at pages ++ drop (at + count) pages

  abbrev pub left_bytes : List ℕ
  left_bytes = take (4096 * at) bytes ++ drop (4096 * at + 4096 * count) bytes

  between_pages : take count (drop at pages) ≡ range_with_len number count
  between_pages =
      let short : length (take count (drop at pages)) ≡ count = omega (arith, length-take count (drop at pages), length-drop at pages, removed_within) in
      same_number_lists (take count (drop at pages)) (range_with_len number count) (omega (arith, short, length-range_with_len number count))
      (λ k below. get_or-take count (drop at pages) k 0 (omega (arith, short)) ∙ get_or-drop at pages k 0 ∙ (stands k (omega (arith, short))).1 ∙ sym (get_or-range_with_len number count k 0 (omega (arith, short))))

  abbrev removed_bytes : List ℕ
  removed_bytes = take (4096 * count) (drop (4096 * at) bytes)

  split_pages : take at pages ++ (range_with_len number count ++ drop (at + count) pages) ≡ pages
  split_pages =
      ap (λ xs. take at pages ++ (xs ++ drop (at + count) pages)) (sym between_pages)
      ∙ ap (λ xs. take at pages ++ (take count (drop at pages) ++ xs)) (sym (drop-drop count at pages))
      ∙ ap (λ xs. take at pages ++ xs) (take-append-drop count (drop at pages))
      ∙ take-append-drop at pages

  split_bytes : take (4096 * at) bytes ++ (removed_bytes ++ drop (4096 * at + 4096 * count) bytes) ≡ bytes
  split_bytes =
      ap (λ xs. take (4096 * at) bytes ++ (removed_bytes ++ xs)) (sym (drop-drop (4096 * count) (4096 * at) bytes))
      ∙ ap (λ xs. take (4096 * at) bytes ++ xs) (take-append-drop (4096 * count) (drop (4096 * at) bytes))
      ∙ take-append-drop (4096 * at) bytes

  pub memory_of-removed : memory_of left_pages left_bytes ≡ without (memory_of pages bytes) (4096 * number) (4096 * count)
  memory_of-removed =
      memory_of-unmapped (take at pages) (drop (at + count) pages) (take (4096 * at) bytes) (drop (4096 * at + 4096 * count) bytes) number count
      (omega (arith, length-take (4096 * at) bytes, length-take at pages, sound.full, rank.within))
      (omega (arith, length-drop (4096 * at + 4096 * count) bytes, length-drop (at + count) pages, sound.full, removed_within))
      removed_bytes
      (omega (arith, length-take (4096 * count) (drop (4096 * at) bytes), length-drop (4096 * at) bytes, sound.full, removed_within))
      (subst Rises (sym split_pages) sound.rising)
      ∙ ap (λ m. without m (4096 * number) (4096 * count)) (ap (λ p. memory_of p (take (4096 * at) bytes ++ (removed_bytes ++ drop (4096 * at + 4096 * count) bytes))) split_pages ∙ ap (memory_of pages) split_bytes)

  pub AreFlatPages-removed : AreFlatPages left_pages left_bytes
  AreFlatPages-removed = record {
    rising = Rises-append (take at pages) (drop (at + count) pages) (Rises-take pages at rank.within sound.rising) (Rises-drop pages (at + count) sound.rising)
        (λ i j a b.
        let long = length-take at pages in
        omega (arith, get_or-take at pages i 0 (omega arith), get_or-drop (at + count) pages j 0, sound.rising i (at + count + j) (omega arith) (omega (arith, length-drop (at + count) pages))));
    low = AreLow-append (take at pages) (drop (at + count) pages) (AreLow-take pages at rank.within sound.low) (AreLow-drop pages (at + count) sound.low);
    full = omega (arith, length-append (take at pages) (drop (at + count) pages), length-append (take (4096 * at) bytes) (drop (4096 * at + 4096 * count) bytes), length-take at pages, length-drop (at + count) pages, length-take (4096 * at) bytes, length-drop (4096 * at + 4096 * count) bytes, sound.full, removed_within);
    small = small_append (take (4096 * at) bytes) (drop (4096 * at + 4096 * count) bytes) (small_take (4096 * at) bytes sound.small) (small_drop (4096 * at + 4096 * count) bytes sound.small);
  }

-- the same from the address of the first page
module _ (pages bytes shown : List ℕ) (sound : AreFlatPages pages bytes) (first count at : ℕ) (aligned : first % 4096 ≡ 0) (same : shown ≡ pages) (rank : IsRank shown (first / 4096) at) where
  begins : 4096 * (first / 4096) ≡ first
  begins = omega arith

  ranked : IsRank pages (first / 4096) at
  ranked = subst (λ xs. IsRank xs (first / 4096) at) same rank

  module _ (low : first + 4096 * count ≤ address_end) (free : IsFree (memory_of pages bytes) first (4096 * count)) where
    free_too : IsFree (memory_of pages bytes) (4096 * (first / 4096)) (4096 * count)
    free_too = subst (λ n. IsFree (memory_of pages bytes) n (4096 * count)) (sym begins) free

    pub sound_after_map : (new_pages new_bytes : List ℕ) → new_pages ≡ take at pages ++ (range_with_len (first / 4096) count ++ drop at pages) → new_bytes ≡ take (4096 * at) bytes ++ (replicate (4096 * count) 0 ++ drop (4096 * at) bytes) → AreFlatPages new_pages new_bytes
    sound_after_map new_pages new_bytes e f =
        subst (λ xs. AreFlatPages xs new_bytes) (sym e) (subst (λ xs. AreFlatPages (take at pages ++ (range_with_len (first / 4096) count ++ drop at pages)) xs) (sym f)
        (AreFlatPages-mapped pages bytes sound (first / 4096) count at ranked (omega arith) free_too))

    pub memory_after_map : (new_pages new_bytes : List ℕ) → new_pages ≡ take at pages ++ (range_with_len (first / 4096) count ++ drop at pages) → new_bytes ≡ take (4096 * at) bytes ++ (replicate (4096 * count) 0 ++ drop (4096 * at) bytes) → memory_of new_pages new_bytes ≡ with_bytes (memory_of pages bytes) first (zeros (4096 * count))
    memory_after_map new_pages new_bytes e f =
        ap (λ xs. memory_of xs new_bytes) e ∙ ap (memory_of (take at pages ++ (range_with_len (first / 4096) count ++ drop at pages))) f
        ∙ memory_of-mapped_at pages bytes sound (first / 4096) count at ranked (omega arith) free_too
        ∙ ap (λ n. with_bytes (memory_of pages bytes) n (zeros (4096 * count))) begins

  module _ (there : maps (memory_of pages bytes) first (4096 * count) ≡ true) where
    there_too : maps (memory_of pages bytes) (4096 * (first / 4096)) (4096 * count) ≡ true
    there_too = ap (λ n. maps (memory_of pages bytes) n (4096 * count)) begins ∙ there

    pub within_before_unmap : at + count ≤ length pages
    within_before_unmap = removed_within pages bytes sound (first / 4096) count at ranked there_too

    pub sound_after_unmap : (new_pages new_bytes : List ℕ) → new_pages ≡ take at pages ++ drop (at + count) pages → new_bytes ≡ take (4096 * at) bytes ++ drop (4096 * at + 4096 * count) bytes → AreFlatPages new_pages new_bytes
    sound_after_unmap new_pages new_bytes e f =
        subst (λ xs. AreFlatPages xs new_bytes) (sym e) (subst (λ xs. AreFlatPages (take at pages ++ drop (at + count) pages) xs) (sym f)
        (AreFlatPages-removed pages bytes sound (first / 4096) count at ranked there_too))

    pub memory_after_unmap : (new_pages new_bytes : List ℕ) → new_pages ≡ take at pages ++ drop (at + count) pages → new_bytes ≡ take (4096 * at) bytes ++ drop (4096 * at + 4096 * count) bytes → memory_of new_pages new_bytes ≡ without (memory_of pages bytes) first (4096 * count)
    memory_after_unmap new_pages new_bytes e f =
        ap (λ xs. memory_of xs new_bytes) e ∙ ap (memory_of (take at pages ++ drop (at + count) pages)) f
        ∙ memory_of-removed pages bytes sound (first / 4096) count at ranked there_too
        ∙ ap (λ n. without (memory_of pages bytes) n (4096 * count)) begins
