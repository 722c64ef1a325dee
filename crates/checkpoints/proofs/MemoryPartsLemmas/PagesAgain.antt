-- Pages that were filled are the pages of that memory.
use Rattle.std.proofs.Common.{◌≡◌, ℕ, zero, suc, ◌+◌, ◌-◌, ◌*◌, ◌^◌, ◌<◌, ◌≤◌, true, ◌==◌, Option, None, Some, List, [], ◌∷◌, ◌++◌, length, refl, sym, ap, subst, ◌∙◌, ◌⊎◌, arith, inl, inr}
use Rattle.std.specs.List.{list_all}
use Rattle.std.specs.FinMap.{get}
use Rattle.std.proofs.lemmas.List.{append-nil}
use Rattle.ddc_base.specs.Limits.{page_number_end}
use Rattle.paged_mem.specs.Memory.{Memory, bytes_at, prepended, with_bytes}
use Rattle.paged_mem.specs.Inside.Wholeness.{get-with_bytes_below, get-with_bytes_above}
use Rattle.paged_mem.proofs.MemoryLaws.{bytes_at-with_bytes}
use Rattle.save_format.specs.StateText.StateText.{PageText, is_page, after_page}
use Rattle.checkpoints.specs.MemoryParts.Canonical.{listed_page, page_texts_from, with_pages, AreShown}
use Rattle.checkpoints.proofs.MemoryPartsLemmas.PagesFound.{same_pages, pages_parts, zero_unlisted}

bytes_alike : (m n : Memory) (at count : ℕ) → ((a : ℕ) → at ≤ a → a < at + count → get m a ≡ get n a) → bytes_at m at count ≡ bytes_at n at count
unfolding bytes_at
bytes_alike m n at zero same = refl
bytes_alike m n at (suc count) same =
    let here : get m at ≡ get n at = same at (omega arith) (omega arith) in
    let later : bytes_at m (suc at) count ≡ bytes_at n (suc at) count = bytes_alike m n (suc at) count (λ a from to. same a (omega arith) (omega arith)) in
    λ i. prepended (here i) (later i)

pages_alike : (m n : Memory) (page count : ℕ) → ((q : ℕ) → page ≤ q → q < page + count → bytes_at m (4096 * q) 4096 ≡ bytes_at n (4096 * q) 4096) → page_texts_from m page count ≡ page_texts_from n page count
unfolding page_texts_from
pages_alike m n page zero same = refl
pages_alike m n page (suc count) same =
    let here : bytes_at m (4096 * page) 4096 ≡ bytes_at n (4096 * page) 4096 = same page (omega arith) (omega arith) in
    let later : page_texts_from m (page + 1) count ≡ page_texts_from n (page + 1) count = pages_alike m n (page + 1) count (λ q from to. same q (omega arith) (omega arith)) in
    λ i. listed_page page (here i) ++ later i

-- nothing but zero bytes
abbrev pub IsZeroed : Memory → Type 0
IsZeroed m = (a : ℕ) → (get m a ≡ None) ⊎ (get m a ≡ Some 0)

all_zeros : (m : Memory) → IsZeroed m → (at count : ℕ) (bytes : List ℕ) → bytes_at m at count ≡ Some bytes → list_all (λ b. b == 0) bytes ≡ true
unfolding bytes_at
all_zeros m zeroed at zero bytes e = let is : [] ≡ bytes = cc in ap (list_all (λ b. b == 0)) (sym is)
all_zeros m zeroed at (suc count) bytes e = both (zeroed at) (bytes_at m (suc at) count) refl (all_zeros m zeroed (suc at) count)
  where
    both : (get m at ≡ None) ⊎ (get m at ≡ Some 0) → (o : Option (List ℕ)) → bytes_at m (suc at) count ≡ o → ((later : List ℕ) → bytes_at m (suc at) count ≡ Some later → list_all (λ b. b == 0) later ≡ true) → list_all (λ b. b == 0) bytes ≡ true
    both (inl none) o was each = let bad : None ≡ Some bytes = ap (λ (g : Option ℕ). prepended g (bytes_at m (suc at) count)) (sym none) ∙ e in absurd cc
    both (inr z) None was each = let bad : None ≡ Some bytes = (λ i. prepended (sym z i) (sym was i)) ∙ e in absurd cc
    both (inr z) (Some later) was each =
        let good : Some (0 ∷ later) ≡ Some bytes = (λ i. prepended (sym z i) (sym was i)) ∙ e in
        let is : 0 ∷ later ≡ bytes = cc in
        ap (list_all (λ b. b == 0)) (sym is) ∙ each later was

none_shown : (m : Memory) → IsZeroed m → (page count : ℕ) → page_texts_from m page count ≡ []
unfolding page_texts_from
none_shown m zeroed page zero = refl
none_shown m zeroed page (suc count) = both (bytes_at m (4096 * page) 4096) refl (none_shown m zeroed (page + 1) count)
  where
    both : (o : Option (List ℕ)) → bytes_at m (4096 * page) 4096 ≡ o → page_texts_from m (page + 1) count ≡ [] → listed_page page (bytes_at m (4096 * page) 4096) ++ page_texts_from m (page + 1) count ≡ []
    both None was later = (λ i. listed_page page (was i) ++ page_texts_from m (page + 1) count) ∙ later
    both (Some bytes) was later = (λ i. (ap (listed_page page) was ∙ zero_unlisted page bytes (all_zeros m zeroed (4096 * page) 4096 bytes was)) i ++ page_texts_from m (page + 1) count) ∙ later

-- pages after leave the bytes of a page
before_all : (m : Memory) (pages : List PageText) (least q : ℕ) → AreShown least pages → q < least → bytes_at (with_pages m pages) (4096 * q) 4096 ≡ bytes_at m (4096 * q) 4096
unfolding with_pages
before_all m [] least q shown lt = refl
before_all m (page ∷ pages) least q shown lt =
    let from : least ≤ page.number = shown.0.from in
    bytes_alike (with_bytes (with_pages m pages) (4096 * page.number) page.bytes) (with_pages m pages) (4096 * q) 4096 (λ a from_a to. get-with_bytes_below (with_pages m pages) (4096 * page.number) page.bytes a (omega arith))
    ∙ before_all m pages (after_page page) q shown.1 (omega arith)

pub pages_again : (m : Memory) (pages : List PageText) (page least count : ℕ) → IsZeroed m → AreShown least pages → page ≤ least → page + count ≡ page_number_end → page_texts_from (with_pages m pages) page count ≡ pages
unfolding with_pages
pages_again m [] page least count zeroed shown le top = none_shown m zeroed page count
pages_again m (p ∷ ps) page least count zeroed shown le top =
    let from : least ≤ p.number = shown.0.from in
    let low : p.number < page_number_end = shown.0.low in
    let full : length p.bytes ≡ 4096 = shown.0.full in
    let gap : ℕ = p.number - page in
    let rest : ℕ = page_number_end - (p.number + 1) in
    let all : Memory = with_bytes (with_pages m ps) (4096 * p.number) p.bytes in
    let prefix : page_texts_from all page gap ≡ [] = pages_alike all m page gap (λ q from_q to. before_all m (p ∷ ps) p.number q (record { from = omega arith; low = low; full = full; some = shown.0.some }, shown.1) (omega arith)) ∙ none_shown m zeroed page gap in
    let here : bytes_at all (4096 * p.number) 4096 ≡ Some p.bytes = subst (λ (n : ℕ). bytes_at all (4096 * p.number) n ≡ Some p.bytes) full (bytes_at-with_bytes (with_pages m ps) (4096 * p.number) p.bytes) in
    let one : page_texts_from all p.number 1 ≡ p ∷ [] = single all p.number ∙ ap (listed_page p.number) here ∙ is_listed p shown.0.some in
    let tail : page_texts_from all (p.number + 1) rest ≡ ps = pages_alike all (with_pages m ps) (p.number + 1) rest (λ q from_q to. bytes_alike all (with_pages m ps) (4096 * q) 4096 (λ a from_a to_a. get-with_bytes_above (with_pages m ps) (4096 * p.number) p.bytes a (omega arith))) ∙ pages_again m ps (p.number + 1) (after_page p) rest zeroed shown.1 (omega arith) (omega arith) in
    same_pages all page page count (gap + (1 + rest)) refl (omega arith)
    ∙ pages_parts all page gap (1 + rest)
    ∙ (λ i. prefix i ++ page_texts_from all (page + gap) (1 + rest))
    ∙ same_pages all (page + gap) p.number (1 + rest) (1 + rest) (omega arith) refl
    ∙ pages_parts all p.number 1 rest
    ∙ (λ i. one i ++ tail i)
  where
    single : (n : Memory) (q : ℕ) → page_texts_from n q 1 ≡ listed_page q (bytes_at n (4096 * q) 4096)
    single n q = unfold page_texts_from in append-nil (listed_page q (bytes_at n (4096 * q) 4096))

    is_listed : (p : PageText) → is_page p.bytes ≡ true → listed_page p.number (Some p.bytes) ≡ p ∷ []
    is_listed p e = rw e refl
