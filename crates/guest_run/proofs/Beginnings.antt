-- The memory of a program that starts fits its heap.
use Rattle.std.proofs.Common.{◌≡◌, ℕ, zero, suc, ◌+◌, ◌-◌, ◌*◌, ◌/◌, ◌^◌, ◌<◌, ◌≤◌, Bool, true, false, cond, ◌&&◌, ◌||◌, Option, None, Some, is_some, List, [], ◌∷◌, ◌++◌, length, get_or, refl, ap, ◌∙◌, arith, inl, inr, length-append}
use Rattle.std.specs.Prelude.{All, count_by, nat_le, nat_lt, sum_by}
use Rattle.std.specs.List.{flat_map, list_any}
use Rattle.std.specs.FinMap.{get, contains_key}
use Rattle.std.proofs.lemmas.Bool.{cases_lt}
use Rattle.std.proofs.lemmas.Bool.Decides.{nat_tests}
use Rattle.std.proofs.lemmas.List.Sums.{sum_by-cons}
use Rattle.ddc_base.specs.Limits.{most_heap, most_loaded, most_pages_apart, most_texts, page_number_end, stack_size}
use Rattle.paged_mem.specs.Memory.{Memory, bytes_of, maps, with_bytes, zeros}
use Rattle.paged_mem.specs.Inside.Wholeness.{get-with_bytes_below, get-with_bytes_above}
use Rattle.paged_mem.proofs.Mapped.{length-zeros}
use Rattle.paged_mem.proofs.Maps.{each_by_maps, maps_by_each}
use Rattle.paged_mem.proofs.Numbers.{length-bytes_of}
use Rattle.linux_calls.specs.declared.Heap.{Heap}
use Rattle.linux_calls.specs.HeapOf.{IsHeapOf, is_apart_from_heap}
use Rattle.paged_mem.specs.Memory.{page_up}
use Rattle.paged_mem.proofs.Wholes.{same_after_write}
use Rattle.elf_load.specs.declared.Segment.{Segment}
use Rattle.elf_load.specs.declared.Image.{Image}
use Rattle.elf_load.specs.Segments.{first_page, page_end, paged_size, IsPlaced}
use Rattle.elf_load.specs.Image.{IsLoadable}
use Rattle.guest_run.specs.Stack.{addresses, gap, ended_texts, stack_bytes, stack_end, stack_pointer, start_size, texts_at, word_count, stack_words}
use Rattle.guest_run.specs.Placed.{with_segments, with_stack}
use Rattle.guest_run.specs.Valid.{Fits, pages_apart, pages_from}
use Rattle.elf_load.proofs.Pages.{none_at}
use Rattle.guest_run.proofs.SegmentAddresses.{first_page-is, IsApart, maps-within, page_end-is, unmapped_apart}

-- the stack's bytes end at its end
length-addresses : (at : ℕ) (texts : List (List ℕ)) → length (addresses at texts) ≡ length texts
length-addresses at [] = refl
length-addresses at (text ∷ texts) = ap (λ n. suc n) (length-addresses (at + (length text + 1)) texts)

length-words8 : (ws : List ℕ) → length (flat_map (bytes_of 8) ws) ≡ 8 * length ws
length-words8 [] = refl
length-words8 (w ∷ ws) =
    let one = length-append (bytes_of 8 w) (flat_map (bytes_of 8) ws) in
    let eight = length-bytes_of 8 w in
    let rest = length-words8 ws in
    omega (arith, one, eight, rest)

length-words : (args env : List (List ℕ)) → length (stack_words args env) ≡ word_count args env
length-words args env =
    let a = length-addresses (texts_at args env) args in
    let e = length-addresses (texts_at args env + length (ended_texts args)) env in
    let one = length-append (length args ∷ addresses (texts_at args env) args ++ 0 ∷ addresses (texts_at args env + length (ended_texts args)) env) (0 ∷ 0 ∷ 0 ∷ []) in
    let two = length-append (length args ∷ addresses (texts_at args env) args) (0 ∷ addresses (texts_at args env + length (ended_texts args)) env) in
    omega (arith, a, e, one, two)

pub stack_length : (args env : List (List ℕ)) → start_size args env ≤ most_texts
    → stack_pointer args env + length (stack_bytes args env) ≡ stack_end
unfolding stack_bytes
stack_length args env fits =
    let one = length-append (flat_map (bytes_of 8) (stack_words args env) ++ zeros (gap args env) ++ ended_texts args) (ended_texts env) in
    let two = length-append (flat_map (bytes_of 8) (stack_words args env) ++ zeros (gap args env)) (ended_texts args) in
    let three = length-append (flat_map (bytes_of 8) (stack_words args env)) (zeros (gap args env)) in
    let eight = length-words8 (stack_words args env) in
    let count = length-words args env in
    let nothing = length-zeros (gap args env) in
    omega (arith, one, two, three, eight, count, nothing)

pub stack_low : (args env : List (List ℕ)) → start_size args env ≤ most_texts → stack_end - stack_size ≤ stack_pointer args env
stack_low args env fits = omega arith

-- an address below the stack
below_stack : (m : Memory) (at : ℕ) (bytes : List ℕ) (q : ℕ) → stack_end - stack_size ≤ at → q < stack_end - stack_size
    → get (with_stack m at bytes) q ≡ get m q
unfolding with_stack
below_stack m at bytes q low below =
    get-with_bytes_below (with_bytes m (stack_end - stack_size) (zeros stack_size)) at bytes q (omega arith)
    ∙ get-with_bytes_below m (stack_end - stack_size) (zeros stack_size) q below

above_stack : (m : Memory) (at : ℕ) (bytes : List ℕ) (q : ℕ) → at + length bytes ≡ stack_end → stack_end ≤ q
    → get (with_stack m at bytes) q ≡ get m q
unfolding with_stack
above_stack m at bytes q ends above =
    let size = length-zeros stack_size in
    get-with_bytes_above (with_bytes m (stack_end - stack_size) (zeros stack_size)) at bytes q (omega arith)
    ∙ get-with_bytes_above m (stack_end - stack_size) (zeros stack_size) q (omega (arith, size))

stack_mapped : (m : Memory) (at : ℕ) (bytes : List ℕ) → stack_end - stack_size ≤ at → at + length bytes ≡ stack_end
    → maps (with_stack m at bytes) (stack_end - stack_size) stack_size ≡ true
unfolding with_stack
stack_mapped m at bytes low ends =
    let pages : Memory = with_bytes m (stack_end - stack_size) (zeros stack_size) in
    let there : maps (with_bytes m (stack_end - stack_size) (zeros stack_size)) at (length bytes) ≡ true =
    maps-within m (stack_end - stack_size) stack_size at (length bytes) low (omega arith) in
    let all : maps (with_bytes m (stack_end - stack_size) (zeros stack_size)) (stack_end - stack_size) stack_size ≡ true =
    maps-within m (stack_end - stack_size) stack_size (stack_end - stack_size) stack_size (omega arith) (omega arith) in
    maps_by_each (with_bytes (with_bytes m (stack_end - stack_size) (zeros stack_size)) at bytes) (stack_end - stack_size) stack_size
    (λ q from to. same_after_write (with_bytes m (stack_end - stack_size) (zeros stack_size)) at bytes there q
    ∙ each_by_maps (with_bytes m (stack_end - stack_size) (zeros stack_size)) (stack_end - stack_size) stack_size all q from to)

-- counts of pages
abbrev within : ℕ → ℕ → ℕ → Bool
within low high page = nat_le low page && nat_lt page high

count_on : (p : ℕ → Bool) (page : ℕ) (pages : List ℕ) → count_by p (page ∷ pages) ≡ cond (p page) 1 0 + count_by p pages
count_on p page pages = sum_by-cons (λ x. cond (p x) 1 0) page pages

count_le : (p q r : ℕ → Bool) (pages : List ℕ) → ((page : ℕ) → p page ≡ true → (q page || r page) ≡ true)
    → count_by p pages ≤ count_by q pages + count_by r pages
count_le p q r [] implies = omega arith
count_le p q r (page ∷ pages) implies =
    let rest = count_le p q r pages implies in
    let here = one (p page) (q page) (r page) (implies page) in
    let a = count_on p page pages in
    let b = count_on q page pages in
    let c = count_on r page pages in
    omega (arith, rest, here, a, b, c)
  where
    one : (a b c : Bool) → (a ≡ true → (b || c) ≡ true) → cond a 1 0 ≤ cond b 1 0 + cond c 1 0
    one false b c h = omega arith
    one true true c h = omega arith
    one true false true h = omega arith
    one true false false h = absurd (let gone : false ≡ true = h refl in cc)

count_none : (pages : List ℕ) → count_by (λ page. false) pages ≡ 0
count_none [] = refl
count_none (page ∷ pages) =
    let one = count_on (λ page'. false) page pages in
    let rest = count_none pages in
    omega (arith, one, rest)

count_within : (low high number count : ℕ) → (count_by (within low high) (pages_from number count) ≤ high - low)
    × (count_by (within low high) (pages_from number count) ≤ high - number)
unfolding pages_from
count_within low high number zero = (omega arith, omega arith)
count_within low high number (suc count) =
    let rest = count_within low high (suc number) count in
    let more = count_on (within low high) number (pages_from (suc number) count) in
    elim (cases_lt number low) [
      | inl below ↦
          (let none : within low high number ≡ false = grind (arith, nat_tests) in
          let here : ◌≡◌ {A = ℕ} (cond (within low high number) 1 0) 0 = ap (λ b. cond b 1 0) none in
          (omega (arith, rest.0, rest.1, more, here), omega (arith, rest.0, rest.1, more, here)))
      | inr from ↦ elim (cases_lt number high) [
        | inl lt ↦
            (let yes : within low high number ≡ true = grind (arith, nat_tests) in
            let here : ◌≡◌ {A = ℕ} (cond (within low high number) 1 0) 1 = ap (λ b. cond b 1 0) yes in
            (omega (arith, rest.0, rest.1, more, here), omega (arith, rest.0, rest.1, more, here)))
        | inr above ↦
            (let none : within low high number ≡ false = grind (arith, nat_tests) in
            let here : ◌≡◌ {A = ℕ} (cond (within low high number) 1 0) 0 = ap (λ b. cond b 1 0) none in
            (omega (arith, rest.0, rest.1, more, here), omega (arith, rest.0, rest.1, more, here)))
      ]
    ]

-- the page is one of the segment's, or of some segment's
abbrev is_of : Segment → ℕ → Bool
is_of segment page = within (first_page segment / 4096) (page_end segment / 4096) page

abbrev is_of_some : List Segment → ℕ → Bool
is_of_some segments page = list_any (λ segment. is_of segment page) segments

pages_of : Segment → ℕ
pages_of segment = page_end segment / 4096 - first_page segment / 4096

count_of_some : (segments : List Segment) (pages : List ℕ) (number count : ℕ) → pages ≡ pages_from number count
    → 4096 * count_by (is_of_some segments) pages ≤ sum_by paged_size segments
count_of_some [] pages number count are = let none = count_none pages in omega (arith, none)
count_of_some (segment ∷ rest) pages number count are =
    let both = count_le (is_of_some (segment ∷ rest)) (is_of segment) (is_of_some rest) pages (λ page is. is) in
    let later = count_of_some rest pages number count are in
    let here = (count_within (first_page segment / 4096) (page_end segment / 4096) number count).0 in
    let at : count_by (is_of segment) pages ≡ count_by (is_of segment) (pages_from number count) = ap (count_by (is_of segment)) are in
    let first = first_page-is segment in
    let end = page_end-is segment in
    let more = sum_by-cons paged_size segment rest in
    omega (arith, both, later, here, at, first, end, more)

-- an address in no segment's pages
apart_of : (segment : Segment) (page : ℕ) → is_of segment page ≡ false → IsApart (4096 * page) segment
apart_of segment page gone =
    let first = first_page-is segment in
    let end = page_end-is segment in
    elim (cases_lt page (first_page segment / 4096)) [
      | inl below ↦ inl (omega arith)
      | inr from ↦ elim (cases_lt page (page_end segment / 4096)) [
        | inl lt ↦ absurd (let is : is_of segment page ≡ true = grind (arith, nat_tests) in cc)
        | inr above ↦ inr (omega arith)
      ]
    ]

segments_unmapped : (program : List ℕ) (segments : List Segment) (page : ℕ) → All (IsPlaced (length program)) segments
    → is_of_some segments page ≡ false → get (with_segments program segments) (4096 * page) ≡ None
segments_unmapped program segments page placed gone =
    unmapped_apart program segments (4096 * page) placed
    (λ k d lt. apart_of (get_or segments k d) page (none_at (λ segment. is_of segment page) segments gone k d lt))

-- a page that is mapped is a segment's or the stack's
either : (b c : Bool) → (b ≡ false → c ≡ true) → (b || c) ≡ true
either true c h = refl
either false c h = h refl

not_mapped : (o : Option ℕ) (clear : Bool) → o ≡ None → (is_some o && clear) ≡ true → ⊥
not_mapped None clear gone is = cc
not_mapped (Some byte) clear gone is = cc

mapped_page : (program : List ℕ) (segments : List Segment) (at : ℕ) (bytes : List ℕ) (page : ℕ) (clear : Bool)
    → All (IsPlaced (length program)) segments → stack_end - stack_size ≤ at → at + length bytes ≡ stack_end
    → (contains_key (with_stack (with_segments program segments) at bytes) (4096 * page) && clear) ≡ true
    → (is_of_some segments page || within 67106816 67108864 page) ≡ true
mapped_page program segments at bytes page clear placed low ends is =
    either (is_of_some segments page) (within 67106816 67108864 page)
    (λ gone.
    let none = segments_unmapped program segments page placed gone in
    elim (cases_lt page 67106816) [
      | inl below ↦ absurd (not_mapped (get (with_stack (with_segments program segments) at bytes) (4096 * page)) clear
          (below_stack (with_segments program segments) at bytes (4096 * page) low (omega arith) ∙ none) is)
      | inr from ↦ elim (cases_lt page 67108864) [
        | inl lt ↦ grind (arith, nat_tests)
        | inr above ↦ absurd (not_mapped (get (with_stack (with_segments program segments) at bytes) (4096 * page)) clear
            (above_stack (with_segments program segments) at bytes (4096 * page) ends (omega arith) ∙ none) is)
      ]
    ])

few_from : (program : List ℕ) (segments : List Segment) (at : ℕ) (bytes : List ℕ) (heap' : Heap) (count : ℕ)
    → All (IsPlaced (length program)) segments → stack_end - stack_size ≤ at → at + length bytes ≡ stack_end
    → sum_by paged_size segments ≤ most_loaded
    → count_by (λ page. contains_key (with_stack (with_segments program segments) at bytes) (4096 * page) && is_apart_from_heap heap' (4096 * page)) (pages_from 0 count) ≤ most_pages_apart
few_from program segments at bytes heap' count placed low ends together =
    let both = count_le
    (λ page. contains_key (with_stack (with_segments program segments) at bytes) (4096 * page) && is_apart_from_heap heap' (4096 * page))
    (is_of_some segments) (within 67106816 67108864) (pages_from 0 count)
    (λ page is. mapped_page program segments at bytes page (is_apart_from_heap heap' (4096 * page)) placed low ends is) in
    let some = count_of_some segments (pages_from 0 count) 0 count refl in
    let stack = (count_within 67106816 67108864 0 count).0 in
    omega (arith, both, some, stack)

few_pages : (program : List ℕ) (segments : List Segment) (at : ℕ) (bytes : List ℕ) (heap' : Heap)
    → All (IsPlaced (length program)) segments → stack_end - stack_size ≤ at → at + length bytes ≡ stack_end
    → sum_by paged_size segments ≤ most_loaded
    → pages_apart (with_stack (with_segments program segments) at bytes) heap' ≤ most_pages_apart
unfolding pages_apart
few_pages program segments at bytes heap' placed low ends together =
    few_from program segments at bytes heap' page_number_end placed low ends together

-- the heap of a program that starts is empty, and free up to its limit
heap_starts : (program : List ℕ) (image : Image) (at : ℕ) (bytes : List ℕ) (limit : ℕ) → IsLoadable (length program) image → limit ≤ most_heap
    → stack_end - stack_size ≤ at
    → IsHeapOf (with_stack (with_segments program image.segments.items) at bytes)
    (record { first = image.first_break; now = image.first_break; limit = limit })
heap_starts program image at bytes limit sound small low =
    let whole = sound.break_aligned in
    let high = sound.break_low in
    record {
      aligned = sound.break_aligned;
      small = small;
      from = omega arith;
      to = omega arith;
      low = omega arith;
      mapped = maps_by_each (with_stack (with_segments program image.segments.items) at bytes) image.first_break
          (page_up image.first_break - image.first_break) (λ q from to. absurd (omega arith));
      free = λ q from to.
          below_stack (with_segments program image.segments.items) at bytes q low (omega arith)
          ∙ unmapped_apart program image.segments.items q sound.placed
          (λ k d lt. let above = sound.break_above k d lt in inr (omega arith));
    }

pub fits_start : (program : List ℕ) (args env : List (List ℕ)) (image : Image) (limit : ℕ) → IsLoadable (length program) image
    → start_size args env ≤ most_texts → limit ≤ most_heap
    → Fits (with_stack (with_segments program image.segments.items) (stack_pointer args env) (stack_bytes args env))
    (record { first = image.first_break; now = image.first_break; limit = limit })
fits_start program args env image limit sound fits small =
    let low = stack_low args env fits in
    let ends = stack_length args env fits in
    record {
      heap_of = heap_starts program image (stack_pointer args env) (stack_bytes args env) limit sound small low;
      stack = stack_mapped (with_segments program image.segments.items) (stack_pointer args env) (stack_bytes args env) low ends;
      few = few_pages program image.segments.items (stack_pointer args env) (stack_bytes args env) _ sound.placed low ends sound.together;
    }
