-- A run that a memory finds is the next of its runs.
use Rattle.std.proofs.Common.{◌≡◌, ℕ, zero, suc, ◌+◌, ◌-◌, ◌*◌, ◌/◌, ◌%◌, ◌^◌, ◌<◌, ◌≤◌, Bool, true, false, cond, eqb, Option, None, Some, is_some, List, [], ◌∷◌, ◌++◌, refl, sym, ap, subst, ◌∙◌, arith, append_assoc}
use Rattle.std.specs.Prelude.{IsSome}
use Rattle.std.specs.FinMap.{get}
use Rattle.std.proofs.lemmas.Bool.{eq-eqb, ne_eqb}
use Rattle.std.proofs.lemmas.List.{append-nil}
use Rattle.ddc_base.specs.Limits.{page_number_end}
use Rattle.paged_mem.specs.Memory.{Memory}
use Rattle.paged_mem.specs.Ram.{IsRun, RunsFrom}
use Rattle.paged_mem.proofs.Maps.{each_by_maps}
use Rattle.save_format.specs.declared.state_text.parts.Run.{Run}
use Rattle.checkpoints.specs.MemoryParts.Canonical.{is_mapped, with_page, runs_from}

-- the first run begins at a page or after it
abbrev IsFrom : ℕ → List Run → Type 0
IsFrom page [] = Unit {0}
IsFrom page (run ∷ runs) = page ≤ run.first

IsFrom-less : (page other : ℕ) (runs : List Run) → other ≤ page → IsFrom page runs → IsFrom other runs
IsFrom-less page other [] le from = tt
IsFrom-less page other (run ∷ runs) le from = omega arith

joined_from : (b : Bool) (page : ℕ) (run : Run) (runs : List Run) → IsFrom page (cond b (record { first = page; pages = run.pages + 1 } ∷ runs) (record { first = page; pages = 1 } ∷ (run ∷ runs)))
joined_from true page run runs = omega arith
joined_from false page run runs = omega arith

with_page-from : (page : ℕ) (runs : List Run) → IsFrom page (with_page page runs)
with_page-from page [] = omega arith
with_page-from page (run ∷ runs) = joined_from (eqb run.first (page + 1)) page run runs

runs_from-from : (mapped : ℕ → Bool) (page count : ℕ) → IsFrom page (runs_from mapped page count)
unfolding runs_from
runs_from-from mapped page zero = tt
runs_from-from mapped page (suc count) = either (mapped page) (with_page page (runs_from mapped (page + 1) count)) (runs_from mapped (page + 1) count) (with_page-from page (runs_from mapped (page + 1) count)) (IsFrom-less (page + 1) page (runs_from mapped (page + 1) count) (omega arith) (runs_from-from mapped (page + 1) count))
  where
    either : (b : Bool) (a c : List Run) → IsFrom page a → IsFrom page c → IsFrom page (cond b a c)
    either true a c x y = x
    either false a c x y = y

pub same_runs : (mapped : ℕ → Bool) (p q n m : ℕ) → p ≡ q → n ≡ m → runs_from mapped p n ≡ runs_from mapped q m
same_runs mapped p q n m e f = λ i. runs_from mapped (e i) (f i)

at_page : (mapped : ℕ → Bool) (p q : ℕ) (b : Bool) → p ≡ q → mapped q ≡ b → mapped p ≡ b
at_page mapped p q b e is = ap mapped e ∙ is

-- pages that are not mapped are passed over
pub passed : (mapped : ℕ → Bool) (page gap count : ℕ) → ((k : ℕ) → k < gap → mapped (page + k) ≡ false) → runs_from mapped page (gap + count) ≡ runs_from mapped (page + gap) count
unfolding runs_from
passed mapped page zero count free = same_runs mapped page (page + 0) (0 + count) count (omega arith) (omega arith)
passed mapped page (suc gap) count free =
    let here : mapped page ≡ false = at_page mapped page (page + 0) false (omega arith) (free 0 (omega arith)) in
    let one : runs_from mapped page (suc (gap + count)) ≡ runs_from mapped (page + 1) (gap + count) = rw here refl in
    same_runs mapped page page (suc gap + count) (suc (gap + count)) refl (omega arith) ∙ one
    ∙ passed mapped (page + 1) gap count (λ k lt. at_page mapped (page + 1 + k) (page + suc k) false (omega arith) (free (suc k) (omega arith)))
    ∙ same_runs mapped (page + 1 + gap) (page + suc gap) count count (omega arith) refl

-- a page whose next one is not mapped stands alone
alone : (page : ℕ) (runs : List Run) → IsFrom (page + 2) runs → with_page page runs ≡ record { first = page; pages = 1 } ∷ runs
alone page [] from = refl
alone page (run ∷ runs) from =
    let other : eqb run.first (page + 1) ≡ false = ne_eqb _ _ (λ e. omega arith) in
    rw other refl

abbrev pub run_of : ℕ → ℕ → Run
run_of first pages = record { first = first; pages = pages }

-- pages in a row with a page after them that is not mapped are one run
pub in_one : (mapped : ℕ → Bool) (page pages count : ℕ) → ((k : ℕ) → k < suc pages → mapped (page + k) ≡ true) → mapped (page + suc pages) ≡ false
    → runs_from mapped page (suc pages + count) ≡ run_of page (suc pages) ∷ runs_from mapped (page + suc pages) count
unfolding runs_from
in_one mapped page zero count all ends =
    let here : mapped page ≡ true = at_page mapped page (page + 0) true (omega arith) (all 0 (omega arith)) in
    let one : runs_from mapped page (suc count) ≡ with_page page (runs_from mapped (page + 1) count) = rw here refl in
    same_runs mapped page page (1 + count) (suc count) refl (omega arith) ∙ one ∙ alone page (runs_from mapped (page + 1) count) (far count)
  where
    far : (n : ℕ) → IsFrom (page + 2) (runs_from mapped (page + 1) n)
    far zero = tt
    far (suc n) =
        let skip : runs_from mapped (page + 1) (suc n) ≡ runs_from mapped (page + 1 + 1) n = rw ends refl in
        subst (IsFrom (page + 2)) (sym (skip ∙ same_runs mapped (page + 1 + 1) (page + 2) n n (omega arith) refl)) (runs_from-from mapped (page + 2) n)
in_one mapped page (suc pages) count all ends =
    let here : mapped page ≡ true = at_page mapped page (page + 0) true (omega arith) (all 0 (omega arith)) in
    let more = in_one mapped (page + 1) pages count (λ k lt. at_page mapped (page + 1 + k) (page + suc k) true (omega arith) (all (suc k) (omega arith))) (at_page mapped (page + 1 + suc pages) (page + suc (suc pages)) false (omega arith) ends) in
    let one : runs_from mapped page (suc (suc pages + count)) ≡ with_page page (runs_from mapped (page + 1) (suc pages + count)) = rw here refl in
    let next : eqb (page + 1) (page + 1) ≡ true = eq-eqb _ _ refl in
    let join : with_page page (run_of (page + 1) (suc pages) ∷ runs_from mapped (page + 1 + suc pages) count) ≡ run_of page (suc pages + 1) ∷ runs_from mapped (page + 1 + suc pages) count = rw next refl in
    let e : suc pages + 1 ≡ suc (suc pages) = omega arith in
    let f : page + 1 + suc pages ≡ page + suc (suc pages) = omega arith in
    same_runs mapped page page (suc (suc pages) + count) (suc (suc pages + count)) refl (omega arith) ∙ one ∙ ap (with_page page) more ∙ join
    ∙ (λ i. run_of page (e i) ∷ runs_from mapped (f i) count)

some_true : (o : Option ℕ) → IsSome o → is_some o ≡ true
some_true o h = h

none_false : (o : Option ℕ) → o ≡ None → is_some o ≡ false
none_false None h = refl
none_false (Some x) h = absurd cc

-- a run that a memory finds comes next
pub run_next : (m : Memory) (page first pages : ℕ) → page ≤ page_number_end → IsRun m (4096 * page) first pages
    → runs_from (is_mapped m) page (page_number_end - page) ≡ run_of (first / 4096) pages ∷ runs_from (is_mapped m) (first / 4096 + pages) (page_number_end - (first / 4096 + pages))
run_next m page first pages le run = some pages refl
  where
    some : (n : ℕ) → pages ≡ n → runs_from (is_mapped m) page (page_number_end - page) ≡ run_of (first / 4096) pages ∷ runs_from (is_mapped m) (first / 4096 + pages) (page_number_end - (first / 4096 + pages))
    some zero is = absurd (omega (arith, run.some))
    some (suc n) is =
        let gap : ℕ = first / 4096 - page in
        let rest : ℕ = page_number_end - (first / 4096 + suc n) in
        let aligned : first % 4096 ≡ 0 = run.aligned in
        let from : page ≤ first / 4096 = omega (arith, run.from) in
        let low : first / 4096 + suc n ≤ page_number_end = omega (arith, run.low) in
        let free : (k : ℕ) → k < gap → is_mapped m (page + k) ≡ false = λ k lt. none_false (get m (4096 * (page + k))) (run.before (4096 * (page + k)) (omega arith) (omega arith)) in
        let all : (k : ℕ) → k < suc n → is_mapped m (first / 4096 + k) ≡ true = λ k lt. some_true (get m (4096 * (first / 4096 + k))) (each_by_maps m first (4096 * pages) run.mapped (4096 * (first / 4096 + k)) (omega arith) (omega arith)) in
        let ends : is_mapped m (first / 4096 + suc n) ≡ false = none_false (get m (4096 * (first / 4096 + suc n))) (ap (get m) (omega arith) ∙ run.next) in
        same_runs (is_mapped m) page page (page_number_end - page) (gap + (suc n + rest)) refl (omega arith)
        ∙ passed (is_mapped m) page gap (suc n + rest) free
        ∙ same_runs (is_mapped m) (page + gap) (first / 4096) (suc n + rest) (suc n + rest) (omega arith) refl
        ∙ in_one (is_mapped m) (first / 4096) n rest all ends
        ∙ (λ i. run_of (first / 4096) (sym is i) ∷ runs_from (is_mapped m) (first / 4096 + sym is i) (page_number_end - (first / 4096 + sym is i)))

pub run_none : (m : Memory) (page : ℕ) → RunsFrom m (4096 * page) None → runs_from (is_mapped m) page (page_number_end - page) ≡ []
unfolding runs_from
run_none m page free =
    let none : runs_from (is_mapped m) page ((page_number_end - page) + 0) ≡ runs_from (is_mapped m) (page + (page_number_end - page)) 0 = passed (is_mapped m) page (page_number_end - page) 0 (λ k lt. none_false (get m (4096 * (page + k))) (free (4096 * (page + k)) (omega arith))) in
    same_runs (is_mapped m) page page (page_number_end - page) ((page_number_end - page) + 0) refl (omega arith) ∙ none

-- the loop over them
pub one_more : (m : Memory) (page first pages : ℕ) (found pushed : List Run) (whole : List Run) → page ≤ page_number_end → IsRun m (4096 * page) first pages → pushed ≡ found ++ run_of (first / 4096) pages ∷ []
    → found ++ runs_from (is_mapped m) page (page_number_end - page) ≡ whole → pushed ++ runs_from (is_mapped m) (first / 4096 + pages) (page_number_end - (first / 4096 + pages)) ≡ whole
one_more m page first pages found pushed whole le run is so_far =
    ap (λ (v : List Run). v ++ runs_from (is_mapped m) (first / 4096 + pages) (page_number_end - (first / 4096 + pages))) is
    ∙ append_assoc found (run_of (first / 4096) pages ∷ []) (runs_from (is_mapped m) (first / 4096 + pages) (page_number_end - (first / 4096 + pages)))
    ∙ ap (λ (v : List Run). found ++ v) (sym (run_next m page first pages le run)) ∙ so_far

pub no_more : (m : Memory) (page : ℕ) (found whole : List Run) → RunsFrom m (4096 * page) None → found ++ runs_from (is_mapped m) page (page_number_end - page) ≡ whole → found ≡ whole
no_more m page found whole none so_far = sym (append-nil found) ∙ ap (λ (v : List Run). found ++ v) (sym (run_none m page none)) ∙ so_far

pub run_low : (m : Memory) (page first pages : ℕ) → IsRun m (4096 * page) first pages → first / 4096 + pages ≤ page_number_end
run_low m page first pages run = omega (arith, run.low)
