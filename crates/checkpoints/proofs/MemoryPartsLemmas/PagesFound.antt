-- The listed pages, run by run.
use Rattle.std.proofs.Common.{◌≡◌, ℕ, zero, suc, ◌+◌, ◌-◌, ◌*◌, ◌/◌, ◌%◌, ◌^◌, ◌<◌, ◌≤◌, true, false, ◌==◌, Option, None, Some, List, [], ◌∷◌, ◌++◌, refl, sym, ap, ◌∙◌, arith, append_assoc}
use Rattle.std.specs.List.{list_all}
use Rattle.std.specs.FinMap.{get}
use Rattle.std.proofs.lemmas.List.{append-nil}
use Rattle.ddc_base.specs.Limits.{page_number_end}
use Rattle.paged_mem.specs.Memory.{Memory, bytes_at, zeros}
use Rattle.paged_mem.specs.Ram.{IsRun, RunsFrom}
use Rattle.paged_mem.proofs.Maps.{bytes_at-none}
use Rattle.save_format.specs.StateText.StateText.{PageText}
use Rattle.checkpoints.specs.MemoryParts.Canonical.{listed_page, page_texts_from}

all_zero : (count : ℕ) → list_all (λ b. b == 0) (zeros count) ≡ true
unfolding zeros
all_zero zero = refl
all_zero (suc count) = all_zero count

-- a page of zeros is not listed
pub zeros_unlisted : (page count : ℕ) → listed_page page (Some (zeros count)) ≡ []
zeros_unlisted page count = rw (all_zero count) refl

pub zero_unlisted : (page : ℕ) (bytes : List ℕ) → list_all (λ b. b == 0) bytes ≡ true → listed_page page (Some bytes) ≡ []
zero_unlisted page bytes e = rw e refl

pub other_listed : (page : ℕ) (bytes : List ℕ) → list_all (λ b. b == 0) bytes ≡ false → listed_page page (Some bytes) ≡ record { number = page; bytes = bytes } ∷ []
other_listed page bytes e = rw e refl

pub same_pages : (m : Memory) (p q a b : ℕ) → p ≡ q → a ≡ b → page_texts_from m p a ≡ page_texts_from m q b
same_pages m p q a b e f = λ i. page_texts_from m (e i) (f i)

pub pages_parts : (m : Memory) (page a b : ℕ) → page_texts_from m page (a + b) ≡ page_texts_from m page a ++ page_texts_from m (page + a) b
unfolding page_texts_from
pages_parts m page zero b = same_pages m page (page + 0) (0 + b) b (omega arith) (omega arith)
pages_parts m page (suc a) b =
    let here : List PageText = listed_page page (bytes_at m (4096 * page) 4096) in
    same_pages m page page (suc a + b) (suc (a + b)) refl (omega arith)
    ∙ ap (λ (v : List PageText). here ++ v) (pages_parts m (page + 1) a b ∙ ap (λ (v : List PageText). page_texts_from m (page + 1) a ++ v) (same_pages m (page + 1 + a) (page + suc a) b b (omega arith) refl))
    ∙ sym (append_assoc here (page_texts_from m (page + 1) a) (page_texts_from m (page + suc a) b))

pub none_listed : (m : Memory) (page count : ℕ) → ((k : ℕ) → k < count → get m (4096 * (page + k)) ≡ None) → page_texts_from m page count ≡ []
unfolding page_texts_from
none_listed m page zero free = refl
none_listed m page (suc count) free =
    let here : bytes_at m (4096 * page) 4096 ≡ None = bytes_at-none m (4096 * page) 4096 (4096 * (page + 0)) (omega arith) (omega arith) (free 0 (omega arith)) in
    ap (λ (o : Option (List ℕ)). listed_page page o ++ page_texts_from m (page + 1) count) here
    ∙ none_listed m (page + 1) count (λ k lt. ap (get m) (omega arith) ∙ free (suc k) (omega arith))

-- one page more
pub page_more : (m : Memory) (prefix now all : List PageText) (first i number : ℕ) → number ≡ first + i → now ≡ prefix ++ listed_page number (bytes_at m (4096 * number) 4096) → prefix ≡ all ++ page_texts_from m first i → now ≡ all ++ page_texts_from m first (i + 1)
page_more m prefix now all first i number is now_is so_far =
    let one : page_texts_from m (first + i) 1 ≡ listed_page (first + i) (bytes_at m (4096 * (first + i)) 4096) = single (first + i) in
    now_is ∙ ap (λ (n : ℕ). prefix ++ listed_page n (bytes_at m (4096 * n) 4096)) is
    ∙ ap (λ (v : List PageText). v ++ listed_page (first + i) (bytes_at m (4096 * (first + i)) 4096)) so_far
    ∙ append_assoc all (page_texts_from m first i) (listed_page (first + i) (bytes_at m (4096 * (first + i)) 4096))
    ∙ ap (λ (v : List PageText). all ++ v) (ap (λ (v : List PageText). page_texts_from m first i ++ v) (sym one) ∙ sym (pages_parts m first i 1))
  where
    single : (page : ℕ) → page_texts_from m page 1 ≡ listed_page page (bytes_at m (4096 * page) 4096)
    single page = unfold page_texts_from in append-nil (listed_page page (bytes_at m (4096 * page) 4096))

pub run_pages : (m : Memory) (page first count : ℕ) (found now whole : List PageText) → page ≤ page_number_end → IsRun m (4096 * page) first count → now ≡ found ++ page_texts_from m (first / 4096) count
    → found ++ page_texts_from m page (page_number_end - page) ≡ whole → now ++ page_texts_from m (first / 4096 + count) (page_number_end - (first / 4096 + count)) ≡ whole
run_pages m page first count found now whole le run is so_far =
    let gap : ℕ = first / 4096 - page in
    let rest : ℕ = page_number_end - (first / 4096 + count) in
    let aligned : first % 4096 ≡ 0 = run.aligned in
    let from : page ≤ first / 4096 = omega (arith, run.from) in
    let low : first / 4096 + count ≤ page_number_end = omega (arith, run.low) in
    let none : page_texts_from m page gap ≡ [] = none_listed m page gap (λ k lt. run.before (4096 * (page + k)) (omega arith) (omega arith)) in
    let parts : page_texts_from m page (page_number_end - page) ≡ page_texts_from m (first / 4096) count ++ page_texts_from m (first / 4096 + count) rest =
    same_pages m page page (page_number_end - page) (gap + (count + rest)) refl (omega arith)
    ∙ pages_parts m page gap (count + rest)
    ∙ ap (λ (v : List PageText). v ++ page_texts_from m (page + gap) (count + rest)) none
    ∙ same_pages m (page + gap) (first / 4096) (count + rest) (count + rest) (omega arith) refl
    ∙ pages_parts m (first / 4096) count rest in
    ap (λ (v : List PageText). v ++ page_texts_from m (first / 4096 + count) rest) is
    ∙ append_assoc found (page_texts_from m (first / 4096) count) (page_texts_from m (first / 4096 + count) rest)
    ∙ ap (λ (v : List PageText). found ++ v) (sym parts) ∙ so_far

pub no_more_pages : (m : Memory) (page : ℕ) (found whole : List PageText) → RunsFrom m (4096 * page) None → found ++ page_texts_from m page (page_number_end - page) ≡ whole → found ≡ whole
no_more_pages m page found whole free so_far =
    let none : page_texts_from m page (page_number_end - page) ≡ [] = none_listed m page (page_number_end - page) (λ k lt. free (4096 * (page + k)) (omega arith)) in
    sym (append-nil found) ∙ ap (λ (v : List PageText). found ++ v) (sym none) ∙ so_far
