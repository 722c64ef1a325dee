-- Runs that were mapped are the runs of that memory.
use Rattle.std.proofs.Common.{◌≡◌, ℕ, zero, suc, ◌+◌, ◌-◌, ◌*◌, ◌/◌, ◌^◌, ◌<◌, ◌≤◌, Bool, true, false, ◌&&◌, cond, leb, ltb, Option, None, Some, is_some, List, [], ◌∷◌, refl, sym, ap, ◌∙◌, arith, inl, inr}
use Rattle.std.specs.Prelude.{◌||◌, nat_le, nat_lt}
use Rattle.std.specs.Ordering.{nat_cmp}
use Rattle.std.specs.FinMap.{get, empty, get-empty}
use Rattle.std.proofs.lemmas.Bool.{leb-true, ltb-true, ltb-false, leb-false, le-leb, lt-ltb, le-ltb}
use Rattle.ddc_base.specs.Limits.{page_number_end}
use Rattle.paged_mem.proofs.Maps.{same_memory}
use Rattle.paged_mem.specs.Memory.{Memory, with_bytes, zeros}
use Rattle.save_format.specs.declared.state_text.parts.Run.{Run}
use Rattle.save_format.specs.StateText.StateText.{after_run}
use Rattle.checkpoints.specs.MemoryParts.Canonical.{is_mapped, runs_from, runs_of, mapped_runs, ArePlaced}
use Rattle.checkpoints.specs.MemoryParts.Inside.Zeros.{zero_runs}
use Rattle.checkpoints.proofs.MemoryPartsLemmas.RunsFound.{same_runs, passed, in_one, run_of}
use Rattle.checkpoints.proofs.MemoryPartsLemmas.Again.{zero_in, zero_out}

leb_no : (a b : ℕ) → b < a → leb a b ≡ false
leb_no a b lt = both (leb a b) refl
  where
    both : (t : Bool) → leb a b ≡ t → t ≡ false
    both true e = absurd (omega (arith, leb-true a b e))
    both false e = refl

-- is a page in one of the runs?
abbrev pub in_run : Run → ℕ → Bool
in_run run page = nat_le run.first page && nat_lt page (run.first + run.pages)

unfoldable pub in_runs : List Run → ℕ → Bool
in_runs [] page = false
in_runs (run ∷ runs) page = in_run run page || in_runs runs page

in_yes : (run : Run) (p : ℕ) → run.first ≤ p → p < run.first + run.pages → in_run run p ≡ true
in_yes run p from to = let a = le-leb run.first p from in let b = lt-ltb p (run.first + run.pages) to in rw (a, b) refl

in_below : (run : Run) (p : ℕ) → p < run.first → in_run run p ≡ false
in_below run p lt = let a = leb_no run.first p lt in rw a refl

in_after : (run : Run) (p : ℕ) → run.first + run.pages ≤ p → run.first ≤ p → in_run run p ≡ false
in_after run p le from = let a = le-leb run.first p from in let b = le-ltb p (run.first + run.pages) le in rw (a, b) refl

none_below : (runs : List Run) (least p : ℕ) → ArePlaced least runs → p < least → in_runs runs p ≡ false
unfolding in_runs
none_below [] least p placed lt = refl
none_below (run ∷ runs) least p placed lt =
    let here : in_run run p ≡ false = in_below run p (omega (arith, placed.0.from)) in
    let later : in_runs runs p ≡ false = none_below runs (after_run run) p placed.1 (omega (arith, placed.0.from)) in
    rw (here, later) refl

pub get-mapped_runs : (runs : List Run) (m : Memory) (a p : ℕ) → a / 4096 ≡ p → get (mapped_runs m runs) a ≡ cond (in_runs runs p) (Some 0) (get m a)
unfolding mapped_runs in_runs
get-mapped_runs [] m a p at = refl
get-mapped_runs (run ∷ runs) m a p at =
    get-mapped_runs runs (with_bytes m (4096 * run.first) (zeros (4096 * run.pages))) a p at
    ∙ both (leb run.first p) (ltb p (run.first + run.pages)) (in_runs runs p) refl refl
  where
    both : (b c d : Bool) → leb run.first p ≡ b → ltb p (run.first + run.pages) ≡ c → cond d (Some 0) (get (with_bytes m (4096 * run.first) (zeros (4096 * run.pages))) a) ≡ cond ((b && c) || d) (Some 0) (get m a)
    both true true true e f = refl
    both true true false e f = zero_in m run.first run.pages a (omega (arith, leb-true _ _ e)) (omega (arith, ltb-true _ _ f))
    both true false true e f = refl
    both true false false e f = zero_out m run.first run.pages a (inr (omega (arith, ltb-false _ _ f)))
    both false c true e f = cases c
      where
        cases : (c : Bool) → Some 0 ≡ cond ((false && c) || true) (Some 0) (get m a)
        cases true = refl
        cases false = refl
    both false c false e f = zero_out m run.first run.pages a (inl (omega (arith, leb-false _ _ e)))

pub runs_again : (mapped : ℕ → Bool) (runs : List Run) (page least count : ℕ) → ArePlaced least runs → page ≤ least → page + count ≡ page_number_end → ((p : ℕ) → page ≤ p → mapped p ≡ in_runs runs p) → runs_from mapped page count ≡ runs
unfolding runs_from in_runs
runs_again mapped [] page least count placed le top is = same_runs mapped page page count (count + 0) refl (omega arith) ∙ passed mapped page count 0 (λ k lt. is (page + k) (omega arith))
runs_again mapped (run ∷ runs) page least count placed le top is = some run.pages refl (λ q n low t i. runs_again mapped runs q (after_run run) n placed.1 low t i)
  where
    first : ℕ
    first = run.first

    some : (n : ℕ) → run.pages ≡ n → ((q m : ℕ) → q ≤ after_run run → q + m ≡ page_number_end → ((p : ℕ) → q ≤ p → mapped p ≡ in_runs runs p) → runs_from mapped q m ≡ runs) → runs_from mapped page count ≡ run ∷ runs
    some zero e later = absurd (omega (arith, placed.0.some))
    some (suc n) e later =
        let from : least ≤ run.first = placed.0.from in
        let low : run.first + run.pages ≤ page_number_end = placed.0.low in
        let gap : ℕ = run.first - page in
        let rest : ℕ = page_number_end - (run.first + suc n) in
        let free : (k : ℕ) → k < gap → mapped (page + k) ≡ false = λ k lt. is (page + k) (omega arith) ∙ (let here = in_below run (page + k) (omega arith) in let others = none_below runs (after_run run) (page + k) placed.1 (omega arith) in rw (here, others) refl) in
        let all : (k : ℕ) → k < suc n → mapped (run.first + k) ≡ true = λ k lt. is (run.first + k) (omega arith) ∙ (let here = in_yes run (run.first + k) (omega arith) (omega arith) in rw here refl) in
        let ends : mapped (run.first + suc n) ≡ false = is (run.first + suc n) (omega arith) ∙ (let here = in_after run (run.first + suc n) (omega arith) (omega arith) in let others = none_below runs (after_run run) (run.first + suc n) placed.1 (omega arith) in rw (here, others) refl) in
        let tail : runs_from mapped (run.first + suc n) rest ≡ runs = later (run.first + suc n) rest (omega arith) (omega arith) (λ p from_p. is p (omega arith) ∙ (let here = in_after run p (omega arith) (omega arith) in rw here refl)) in
        same_runs mapped page page count (gap + (suc n + rest)) refl (omega arith)
        ∙ passed mapped page gap (suc n + rest) free
        ∙ same_runs mapped (page + gap) run.first (suc n + rest) (suc n + rest) (omega arith) refl
        ∙ in_one mapped run.first n rest all ends
        ∙ (λ i. run_of run.first (sym e i) ∷ tail i)

-- one text: the runs of the memory that runs say are those runs
pub same_runs_again : (runs : List Run) → ArePlaced 0 runs → runs_of (mapped_runs empty runs) ≡ runs
same_runs_again runs placed = runs_again (is_mapped (mapped_runs empty runs)) runs 0 0 page_number_end placed (omega arith) refl (λ p le. ap (is_some {T = ℕ}) (get-mapped_runs runs empty (4096 * p) p (omega arith)) ∙ ap (λ (o : Option ℕ). is_some {T = ℕ} (cond (in_runs runs p) (Some 0) o)) (get-empty nat_cmp (4096 * p)) ∙ told (in_runs runs p))
  where
    told : (b : Bool) → is_some {T = ℕ} (cond b (Some 0) None) ≡ b
    told true = refl
    told false = refl

get-zero_runs : (runs : List Run) (a p : ℕ) → a / 4096 ≡ p → get (zero_runs runs) a ≡ cond (in_runs runs p) (Some 0) None
unfolding zero_runs in_runs
get-zero_runs [] a p at = get-empty nat_cmp a
get-zero_runs (run ∷ runs) a p at = both (get-zero_runs runs a p at) (leb run.first p) (ltb p (run.first + run.pages)) refl refl
  where
    both : get (zero_runs runs) a ≡ cond (in_runs runs p) (Some 0) None → (b c : Bool) → leb run.first p ≡ b → ltb p (run.first + run.pages) ≡ c → get (with_bytes (zero_runs runs) (4096 * run.first) (zeros (4096 * run.pages))) a ≡ cond ((b && c) || in_runs runs p) (Some 0) None
    both later true true e f = zero_in (zero_runs runs) run.first run.pages a (omega (arith, leb-true _ _ e)) (omega (arith, ltb-true _ _ f))
    both later true false e f = zero_out (zero_runs runs) run.first run.pages a (inr (omega (arith, ltb-false _ _ f))) ∙ later
    both later false true e f = zero_out (zero_runs runs) run.first run.pages a (inl (omega (arith, leb-false _ _ e))) ∙ later
    both later false false e f = zero_out (zero_runs runs) run.first run.pages a (inl (omega (arith, leb-false _ _ e))) ∙ later

-- the order in which runs are mapped does not matter
pub zero_runs_mapped : (runs : List Run) → zero_runs runs ≡ mapped_runs empty runs
zero_runs_mapped runs = same_memory (zero_runs runs) (mapped_runs empty runs) (λ a. get-zero_runs runs a (a / 4096) refl ∙ ap (cond (in_runs runs (a / 4096)) (Some 0)) (sym (get-empty nat_cmp a)) ∙ sym (get-mapped_runs runs empty a (a / 4096) refl))
