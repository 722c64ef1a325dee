-- Counts of pages in a row, and what a search of a memory finds.
use Rattle.std.proofs.Common.{◌≡◌, ℕ, zero, suc, ◌+◌, ◌-◌, ◌*◌, ◌/◌, ◌%◌, ◌^◌, ◌<◌, ◌≤◌, Bool, true, false, cond, ◌&&◌, None, is_some, [], ◌∷◌, ◌++◌, sum_by, inl, inr, refl, sym, ap, ◌∙◌, arith}
use Rattle.ddc_base.specs.Limits.{page_number_end}
use mir.Val.{bool_byte}
use Rattle.std.specs.Prelude.{count_by}
use Rattle.std.specs.FinMap.{contains_key, get}
use Rattle.std.proofs.lemmas.Bool.{cases_lt, false≢true}
use Rattle.std.proofs.lemmas.List.Sums.{sum_by-append, sum_by-cons}
use Rattle.paged_mem.specs.Memory.{Memory, IsFree}
use Rattle.paged_mem.specs.Ram.{IsRun, RunsFrom}
use Rattle.paged_mem.proofs.Maps.{each_by_maps}
use Rattle.linux_calls.specs.declared.Heap.{Heap}
use Rattle.linux_calls.specs.HeapOf.{is_apart_from_heap}
use Rattle.guest_run.specs.Valid.{pages_apart, pages_from}

-- nothing is mapped from an address on, up to the first page that is found and not further
pub free_before : (m : Memory) (at first pages count : ℕ) → at % 4096 ≡ 0 → IsRun m at first pages → at + count ≤ first → IsFree m at count
free_before m at first pages count aligned run low address from to = run.before address (omega arith) (omega arith)

pub before_free : (m : Memory) (at first pages count : ℕ) → at % 4096 ≡ 0 → IsRun m at first pages → IsFree m at count → at + count ≤ first
before_free m at first pages count aligned run free = elim (cases_lt first (at + count)) as (λ _. at + count ≤ first) [
  | inl h ↦
      let none : get m first ≡ None = free first (omega (arith, run.from)) h in
      absurd (false≢true (sym (ap is_some none) ∙ each_by_maps m first (4096 * pages) run.mapped first (omega arith) (omega (arith, run.some))))
  | inr h ↦ h
]

-- pages in a row
same_row : (n k a b : ℕ) → n ≡ k → a ≡ b → pages_from n a ≡ pages_from k b
same_row n k a b e f = λ i. pages_from (e i) (f i)

row-append : (n a b : ℕ) → pages_from n (a + b) ≡ pages_from n a ++ pages_from (n + a) b
unfolding pages_from
row-append n zero b = same_row n (n + 0) (0 + b) b (omega arith) (omega arith)
row-append n (suc a) b =
    same_row n n (suc a + b) (suc (a + b)) refl (omega arith)
    ∙ ap (λ pages. n ∷ pages) (row-append (suc n) a b ∙ ap (λ pages. pages_from (suc n) a ++ pages) (same_row (suc n + a) (n + suc a) b b (omega arith) refl))

count_row : (p : ℕ → Bool) (n a b : ℕ) → count_by p (pages_from n (a + b)) ≡ count_by p (pages_from n a) + count_by p (pages_from (n + a) b)
count_row p n a b = ap (count_by p) (row-append n a b) ∙ sum_by-append (λ page. cond (p page) 1 0) (pages_from n a) (pages_from (n + a) b)

count_one : (p : ℕ → Bool) (n : ℕ) → count_by p (pages_from n 1) ≡ cond (p n) 1 0
unfolding pages_from
count_one p n = sum_by-cons (λ page. cond (p page) 1 0) n [] ∙ plus (cond (p n) 1 0)
  where
    plus : (k : ℕ) → k + 0 ≡ k
    plus k = omega arith

-- no page, and one page more
pub count_start : (p : ℕ → Bool) (n : ℕ) → 0 ≡ count_by p (pages_from n 0)
unfolding pages_from
count_start p n = refl

pub count_more : (p : ℕ → Bool) (n i : ℕ) → count_by p (pages_from n (i + 1)) ≡ count_by p (pages_from n i) + cond (p (n + i)) 1 0
count_more p n i = count_row p n i 1 ∙ ap (λ k. count_by p (pages_from n i) + k) (count_one p (n + i))

at_page : (p : ℕ → Bool) (a b : ℕ) (t : Bool) → a ≡ b → p b ≡ t → p a ≡ t
at_page p a b t e is = ap p e ∙ is

same_count : (p q : ℕ → Bool) (n count : ℕ) → ((k : ℕ) → k < count → p (n + k) ≡ q (n + k)) → count_by p (pages_from n count) ≡ count_by q (pages_from n count)
unfolding pages_from
same_count p q n zero same = refl
same_count p q n (suc count) same =
    joined (moved n (n + 0) (omega arith) (same 0 (omega arith))) (same_count p q (suc n) count (λ k less. moved (suc n + k) (n + suc k) (omega arith) (same (suc k) (omega arith))))
  where
    moved : (k j : ℕ) → k ≡ j → p j ≡ q j → p k ≡ q k
    moved k j e is = ap p e ∙ is ∙ ap q (sym e)

    joined : p n ≡ q n → count_by p (pages_from (suc n) count) ≡ count_by q (pages_from (suc n) count) → count_by p (n ∷ pages_from (suc n) count) ≡ count_by q (n ∷ pages_from (suc n) count)
    joined first rest =
        sum_by-cons (λ page. cond (p page) 1 0) n (pages_from (suc n) count) ∙ (λ i. cond (first i) 1 0 + rest i)
        ∙ sym (sum_by-cons (λ page. cond (q page) 1 0) n (pages_from (suc n) count))

nothing : (n count : ℕ) → count_by (λ page. false) (pages_from n count) ≡ 0
unfolding pages_from
nothing n zero = refl
nothing n (suc count) = sum_by-cons (λ page. 0) n (pages_from (suc n) count) ∙ plus (sum_by (λ page. 0) (pages_from (suc n) count)) ∙ nothing (suc n) count
  where
    plus : (k : ℕ) → 0 + k ≡ k
    plus k = omega arith

module _ (m : Memory) (heap : Heap) where
  abbrev counted : ℕ → Bool
  counted page = contains_key m (4096 * page) && is_apart_from_heap heap (4096 * page)

  abbrev clear : ℕ → Bool
  clear page = is_apart_from_heap heap (4096 * page)

  unmapped : (page : ℕ) → get m (4096 * page) ≡ None → counted page ≡ false
  unmapped page none = ap (λ o. is_some o && clear page) none

  mapped : (page : ℕ) → contains_key m (4096 * page) ≡ true → counted page ≡ clear page
  mapped page is = ap (λ b. b && clear page) is

  -- a run that is found, after what was counted
  pub run_counted : (page first pages : ℕ) → page ≤ page_number_end → IsRun m (4096 * page) first pages
      → count_by (λ page. contains_key m (4096 * page) && is_apart_from_heap heap (4096 * page)) (pages_from 0 (first / 4096 + pages))
      ≡ count_by (λ page. contains_key m (4096 * page) && is_apart_from_heap heap (4096 * page)) (pages_from 0 page) + count_by (λ page. is_apart_from_heap heap (4096 * page)) (pages_from (first / 4096) pages)
  run_counted page first pages low run =
      let gap : ℕ = first / 4096 - page in
      let aligned : first % 4096 ≡ 0 = run.aligned in
      let from : page ≤ first / 4096 = omega (arith, run.from) in
      let split : count_by counted (pages_from 0 (page + (gap + pages))) ≡ count_by counted (pages_from 0 page) + count_by counted (pages_from (0 + page) (gap + pages)) = count_row counted 0 page (gap + pages) in
      let again : count_by counted (pages_from (0 + page) (gap + pages)) ≡ count_by counted (pages_from (0 + page) gap) + count_by counted (pages_from (0 + page + gap) pages) = count_row counted (0 + page) gap pages in
      let none : count_by counted (pages_from (0 + page) gap) ≡ 0 =
      same_count counted (λ page. false) (0 + page) gap (λ k less. unmapped (0 + page + k) (run.before (4096 * (0 + page + k)) (omega arith) (omega arith))) ∙ nothing (0 + page) gap in
      let all : count_by counted (pages_from (0 + page + gap) pages) ≡ count_by clear (pages_from (0 + page + gap) pages) =
      same_count counted clear (0 + page + gap) pages (λ k less. mapped (0 + page + gap + k) (each_by_maps m first (4096 * pages) run.mapped (4096 * (0 + page + gap + k)) (omega arith) (omega arith))) in
      let shifted : count_by clear (pages_from (0 + page + gap) pages) ≡ count_by clear (pages_from (first / 4096) pages) = ap (count_by clear) (same_row (0 + page + gap) (first / 4096) pages pages (omega arith) refl) in
      ap (count_by counted) (same_row 0 0 (first / 4096 + pages) (page + (gap + pages)) refl (omega arith)) ∙ omega (arith, split, again, none, all, shifted)

  pub run_low : (page first pages : ℕ) → IsRun m (4096 * page) first pages → first / 4096 + pages ≤ page_number_end
  run_low page first pages run = omega (arith, run.low)

  -- no run is left
  pub none_counted : (page : ℕ) → page ≤ page_number_end → RunsFrom m (4096 * page) None → pages_apart m heap ≡ count_by (λ page. contains_key m (4096 * page) && is_apart_from_heap heap (4096 * page)) (pages_from 0 page)
  unfolding pages_apart
  none_counted page low free =
      let left : ℕ = page_number_end - page in
      let split : count_by counted (pages_from 0 (page + left)) ≡ count_by counted (pages_from 0 page) + count_by counted (pages_from (0 + page) left) = count_row counted 0 page left in
      let none : count_by counted (pages_from (0 + page) left) ≡ 0 =
      same_count counted (λ page. false) (0 + page) left (λ k less. unmapped (0 + page + k) (free (4096 * (0 + page + k)) (omega arith))) ∙ nothing (0 + page) left in
      ap (count_by counted) (same_row 0 0 page_number_end (page + left) refl (omega arith)) ∙ omega (arith, split, none)

-- a truth value as a number
pub byte_is : (b : Bool) → bool_byte b ≡ cond b 1 0
byte_is true = refl
byte_is false = refl

pub one_at_most : (b : Bool) → cond b 1 0 ≤ 1
one_at_most true = omega arith
one_at_most false = omega arith
