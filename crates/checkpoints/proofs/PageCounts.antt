-- How many pages a guest can have.
use Rattle.std.proofs.Common.{◌≡◌, ℕ, zero, suc, ◌+◌, ◌-◌, ◌*◌, ◌/◌, ◌^◌, ◌<◌, ◌≤◌, Bool, true, false, cond, eqb, not, max, Option, None, Some, is_some, List, [], ◌∷◌, length, length-append, add-one, refl, ap, ◌∙◌, arith}
use Rattle.std.specs.Prelude.{count_by, sum_by, ◌&&◌, ◌||◌, nat_lt, nat_le}
use Rattle.std.specs.FinMap as finite
use Rattle.std.proofs.lemmas.List.Sums.{sum_by-cons}
use Rattle.std.proofs.lemmas.Bool.{leb-false, ltb-false}
use Rattle.ddc_base.specs.Limits.{most_pages, page_number_end}
use Rattle.paged_mem.specs.Memory.{Memory, bytes_at, page_up, prepended}
use Rattle.linux_calls.specs.declared.Heap.{Heap}
use Rattle.linux_calls.specs.HeapOf.{is_apart_from_heap}
use Rattle.guest_run.specs.Valid.{Fits, pages_apart, pages_from}
use Rattle.checkpoints.specs.MemoryParts.Canonical.{ArePlaced, is_mapped, listed_page, page_texts_from as listed_from, runs_from, runs_of, with_page}
use Rattle.save_format.specs.declared.state_text.parts.Run.{Run}
use Rattle.save_format.specs.StateText.StateText.{PageText, after_run, is_page}

abbrev pages_in : List Run → ℕ
pages_in runs = sum_by (λ (run : Run). run.pages) runs

count_by-cons : {X : Type 0} (test : X → Bool) (x : X) (xs : List X) → count_by test (x ∷ xs) ≡ cond (test x) 1 0 + count_by test xs
count_by-cons test x xs = sum_by-cons (λ x. cond (test x) 1 0) x xs

cons-pages : (run : Run) (runs : List Run) → pages_in (run ∷ runs) ≡ run.pages + pages_in runs
cons-pages run runs = sum_by-cons (λ (run : Run). run.pages) run runs

with_one : (b : Bool) (page : ℕ) (run : Run) (runs : List Run)
    → pages_in (cond b (record { first = page; pages = run.pages + 1 } ∷ runs) (record { first = page; pages = 1 } ∷ (run ∷ runs))) ≡ 1 + pages_in (run ∷ runs)
with_one true page run runs = omega (arith, cons-pages (record { first = page; pages = run.pages + 1 }) runs, cons-pages run runs)
with_one false page run runs = cons-pages (record { first = page; pages = 1 }) (run ∷ runs)

page_more : (page : ℕ) (runs : List Run) → pages_in (with_page page runs) ≡ 1 + pages_in runs
page_more page [] = refl
page_more page (run ∷ runs) = with_one (eqb run.first (page + 1)) page run runs

at_page : (mapped : ℕ → Bool) (page : ℕ) (runs : List Run) (pages : List ℕ) → pages_in runs ≡ count_by mapped pages → (b : Bool) → mapped page ≡ b
    → pages_in (cond b (with_page page runs) runs) ≡ count_by mapped (page ∷ pages)
at_page mapped page runs pages same true e = let one : cond {A = ℕ} (mapped page) 1 0 ≡ 1 = ap (λ b. cond {A = ℕ} b 1 0) e in omega (arith, one, page_more page runs, count_by-cons mapped page pages)
at_page mapped page runs pages same false e = let none : cond {A = ℕ} (mapped page) 1 0 ≡ 0 = ap (λ b. cond {A = ℕ} b 1 0) e in omega (arith, none, count_by-cons mapped page pages)

-- the runs have as many pages as are mapped
pages-counted : (mapped : ℕ → Bool) (page count : ℕ) → pages_in (runs_from mapped page count) ≡ count_by mapped (pages_from page count)
unfolding runs_from pages_from
pages-counted mapped page zero = refl
pages-counted mapped page (suc count) =
    at_page mapped page (runs_from mapped (page + 1) count) (pages_from (suc page) count) (ap (λ n. pages_in (runs_from mapped n count)) (add-one page) ∙ pages-counted mapped (suc page) count) (mapped page) refl

-- what passes a test passes it beside another one or where that fails
split_count : (test relative : ℕ → Bool) (xs : List ℕ) → count_by test xs ≤ count_by (λ x. test x && relative x) xs + count_by (λ x. not (relative x)) xs
split_count test relative [] = omega arith
split_count test relative (x ∷ xs) =
    let rest = split_count test relative xs in
    let a = count_by-cons test x xs in
    let b = count_by-cons (λ x. test x && relative x) x xs in
    let c = count_by-cons (λ x. not (relative x)) x xs in
    let one : cond (test x) 1 0 ≤ cond (test x && relative x) 1 0 + cond (not (relative x)) 1 0 = by (test x) (relative x) in
    omega arith
  where
    by : (p q : Bool) → cond p 1 0 ≤ cond (p && q) 1 0 + cond (not q) 1 0
    by true true = omega arith
    by true false = omega arith
    by false true = omega arith
    by false false = omega arith

one_between : (test : ℕ → Bool) (low high number here later : ℕ) → ((n : ℕ) → test n ≡ true → (low ≤ n) × (n < high)) → later ≤ high - max (suc number) low → (b : Bool) → test number ≡ b
    → here ≡ cond b 1 0 + later → here ≤ high - max number low
one_between test low high number here later fits rest true e is = let lies = fits number e in let low_is = lies.0 in let high_is = lies.1 in omega (arith, is, rest)
one_between test low high number here later fits rest false e is = omega (arith, is, rest)

-- numbers in a row that pass a test lie between two others
between : (test : ℕ → Bool) (low high : ℕ) → ((n : ℕ) → test n ≡ true → (low ≤ n) × (n < high)) → (number count : ℕ) → count_by test (pages_from number count) ≤ high - max number low
unfolding pages_from
between test low high fits number zero = omega arith
between test low high fits number (suc count) =
    one_between test low high number _ (count_by test (pages_from (suc number) count)) fits (between test low high fits (suc number) count) (test number) refl (count_by-cons test number (pages_from (suc number) count))

-- an address that is not apart from the heap is within its pages
in_heap : (first top at : ℕ) (b c : Bool) → nat_lt at first ≡ b → nat_le top at ≡ c → not (b || c) ≡ true → (first ≤ at) × (at < top)
in_heap first top at true c below above e = absurd cc
in_heap first top at false true below above e = absurd cc
in_heap first top at false false below above e = (ltb-false at first below, leb-false top at above)

in_heap_pages : (heap : Heap) (page : ℕ) → not (is_apart_from_heap heap (4096 * page)) ≡ true → (heap.first ≤ 4096 * page) × (4096 * page < page_up (heap.first + heap.limit))
in_heap_pages heap page e = in_heap heap.first (page_up (heap.first + heap.limit)) (4096 * page) (nat_lt (4096 * page) heap.first) (nat_le (page_up (heap.first + heap.limit)) (4096 * page)) refl refl e

-- a guest has at most 67,584 pages apart from its heap and 262,144 of its heap
pub few_pages : (m : Memory) (heap : Heap) → Fits m heap → pages_in (runs_of m) ≤ most_pages
unfolding pages_apart
few_pages m heap fits =
    let relative : ℕ → Bool = λ page. is_apart_from_heap heap (4096 * page) in
    let counted = pages-counted (is_mapped m) 0 page_number_end in
    let split = split_count (is_mapped m) relative (pages_from 0 page_number_end) in
    let low : ℕ = heap.first / 4096 in
    let high : ℕ = page_up (heap.first + heap.limit) / 4096 in
    let aligned = fits.heap_of.aligned in
    let small = fits.heap_of.small in
    let inside : (n : ℕ) → not (relative n) ≡ true → (low ≤ n) × (n < high) = λ n e. let lies = in_heap_pages heap n e in let a = lies.0 in let b = lies.1 in (omega arith, omega arith) in
    let of_heap = between (λ n. not (relative n)) low high inside 0 page_number_end in
    let few = fits.few in
    omega arith

-- a run has a page
pub runs_few : (least : ℕ) (runs : List Run) → ArePlaced least runs → length runs ≤ pages_in runs
runs_few least [] turn = omega arith
runs_few least (run ∷ runs) turn = let some = turn.0.some in let rest = runs_few (after_run run) runs turn.1 in omega (arith, cons-pages run runs)

-- a page is listed only where its first byte is mapped
listed_few : (m : Memory) (page count : ℕ) → length (listed_page page (bytes_at m (4096 * page) (suc count))) ≤ cond (is_mapped m page) 1 0
unfolding bytes_at
listed_few m page count = first (finite.get m (4096 * page)) (bytes_at m (suc (4096 * page)) count)
  where
    shown : (bytes : List ℕ) (b : Bool) → length {A = PageText} (cond b (record { number = page; bytes = bytes } ∷ []) []) ≤ 1
    shown bytes true = omega arith
    shown bytes false = omega arith

    first : (o : Option ℕ) (later : Option (List ℕ)) → length (listed_page page (prepended o later)) ≤ cond (is_some o) 1 0
    first None later = omega arith
    first (Some byte) None = omega arith
    first (Some byte) (Some bytes) = shown (byte ∷ bytes) (is_page (byte ∷ bytes))

by_page : (page here later : ℕ) (runs : List Run) (b : Bool) → here ≤ cond b 1 0 → later ≤ pages_in runs → here + later ≤ pages_in (cond b (with_page page runs) runs)
by_page page here later runs true first rest = omega (arith, page_more page runs)
by_page page here later runs false first rest = omega arith

-- no more pages are listed than the runs have
pub pages_few : (m : Memory) (page count : ℕ) → length (listed_from m page count) ≤ pages_in (runs_from (is_mapped m) page count)
unfolding listed_from runs_from
pages_few m page zero = omega arith
pages_few m page (suc count) =
    let here = listed_page page (bytes_at m (4096 * page) 4096) in
    let later = listed_from m (page + 1) count in
    let few = by_page page (length here) (length later) (runs_from (is_mapped m) (page + 1) count) (is_mapped m page) (listed_few m page 4095) (pages_few m (page + 1) count) in
    omega (arith, length-append here later)
