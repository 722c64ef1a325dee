-- Addresses in a row on pages in a row: where their bytes stand, and what the memory answers there.
use Rattle.std.proofs.Common.{◌≡◌, ◌≢◌, ℕ, zero, suc, ◌+◌, ◌-◌, ◌*◌, ◌/◌, ◌%◌, ◌^◌, ◌<◌, ◌≤◌, Option, None, Some, IsSome, is_some, subst, List, length, get_or, refl, ap, ◌∙◌, arith, ◌⊎◌, inl, inr}
use Rattle.std.specs.Option.{option_map}
use Rattle.std.proofs.lemmas.Bool.{cases_eq}
use Rattle.ddc_base.specs.Limits.{address_end}
use Rattle.paged_mem.specs.Inside.Flat.{page_index, slot, Rises, AreLow, Spans}
use Rattle.paged_mem.specs.Inside.Wholeness.{page_index-some}
use Rattle.paged_mem.proofs.PageIndices.{page_index-at, page_index-none, rising_by, in_a_row}

-- no address at or past `address_end` is on a page
pub slot_past : (pages : List ℕ) → AreLow pages → (at : ℕ) → address_end ≤ at → slot pages at ≡ None
slot_past pages low at past =
    ap (option_map (λ i. 4096 * i + at % 4096)) (page_index-none pages (at / 4096) (λ k within e. omega (arith, low k within)))

-- each of count places is taken, or one is not
all_or_one : (f : ℕ → Option ℕ) (count : ℕ) → ((k : ℕ) → k < count → IsSome (f k)) ⊎ ((k : ℕ) × (k < count) × (f k ≡ None))
all_or_one f zero = inl (λ k below. absurd (omega arith))
all_or_one f (suc count) = more (all_or_one f count) (f count) refl
  where
    more : ((k : ℕ) → k < count → IsSome (f k)) ⊎ ((k : ℕ) × (k < count) × (f k ≡ None)) → (o : Option ℕ) → f count ≡ o → ((k : ℕ) → k < suc count → IsSome (f k)) ⊎ ((k : ℕ) × (k < suc count) × (f k ≡ None))
    more (inr one) o was = inr (one.0, omega (arith, one.1), one.2)
    more (inl all) None was = inr (count, omega arith, was)
    more (inl all) (Some x) was = inl (λ k below. at k below (cases_eq k count))
      where
        at : (k : ℕ) → k < suc count → (k ≡ count) ⊎ (k ≢ count) → IsSome (f k)
        at k below (inl same) = ap is_some (ap f same ∙ was)
        at k below (inr ne) = all k (omega arith)

-- the page before the last of a row of pages is found by its distance from the first
pub between : (pages : List ℕ) → Rises pages → (page number more : ℕ) → get_or pages page 0 ≡ number → page + more < length pages → get_or pages (page + more) 0 ≡ number + more → (j : ℕ) → j ≤ more → page_index pages (number + j) ≡ Some (page + j)
between pages rising page number more first within last j le =
    let up : get_or pages page 0 + j ≤ get_or pages (page + j) 0 = rising_by pages rising page j (omega arith) in
    let rest : page + j + (more - j) ≡ page + more = omega arith in
    let down : get_or pages (page + j) 0 + (more - j) ≤ get_or pages (page + j + (more - j)) 0 = rising_by pages rising (page + j) (more - j) (omega arith) in
    let end : get_or pages (page + j + (more - j)) 0 ≡ get_or pages (page + more) 0 = ap (λ k. get_or pages k 0) rest in
    page_index-at pages rising (number + j) (page + j) (omega arith) (omega arith)

pub span_found : (pages : List ℕ) → Rises pages → (at count page last : ℕ) → 0 < count → last ≡ at + (count - 1) → page_index pages (at / 4096) ≡ Some page → page + (last / 4096 - at / 4096) < length pages → get_or pages (page + (last / 4096 - at / 4096)) 0 ≡ last / 4096 → Spans pages at count (Some (4096 * page + at % 4096))
span_found pages rising at count page last some is_last found within ends =
    (omega arith, λ k below. here k below)
  where
    here : (k : ℕ) → k < count → slot pages (at + k) ≡ Some (4096 * page + at % 4096 + k)
    here k below =
        let first = page_index-some pages (at / 4096) page found in
        let row = between pages rising page (at / 4096) (last / 4096 - at / 4096) first.1 within (omega arith) ((at + k) / 4096 - at / 4096) (omega arith) in
        let number : (at + k) / 4096 ≡ at / 4096 + ((at + k) / 4096 - at / 4096) = omega arith in
        ap (λ n. option_map (λ i. 4096 * i + (at + k) % 4096) (page_index pages n)) number ∙ ap (option_map (λ i. 4096 * i + (at + k) % 4096)) row ∙ ap Some (omega arith)

pub span_ends : (pages : List ℕ) → Rises pages → (at count page last : ℕ) → 0 < count → last ≡ at + (count - 1) → page_index pages (at / 4096) ≡ Some page → (page + (last / 4096 - at / 4096) < length pages → get_or pages (page + (last / 4096 - at / 4096)) 0 ≢ last / 4096) → Spans pages at count None
span_ends pages rising at count page last some is_last found ends = one (all_or_one (λ k. slot pages (at + k)) count)
  where
    index_within : (o : Option ℕ) (low : ℕ) → IsSome (option_map (λ i. 4096 * i + low) o) → IsSome o
    index_within None low there = there
    index_within (Some i) low there = refl

    one : ((k : ℕ) → k < count → IsSome (slot pages (at + k))) ⊎ ((k : ℕ) × (k < count) × (slot pages (at + k) ≡ None)) → Spans pages at count None
    one (inr gone) = gone
    one (inl all) =
        let row = in_a_row pages rising (at / 4096) page found (last / 4096 - at / 4096) (λ j le. present j le (cases_eq j 0)) in
        let end = page_index-some pages (at / 4096 + (last / 4096 - at / 4096)) (page + (last / 4096 - at / 4096)) row in
        absurd (ends end.0 (end.1 ∙ omega arith))
      where
        present : (j : ℕ) → j ≤ last / 4096 - at / 4096 → (j ≡ 0) ⊎ (j ≢ 0) → IsSome (page_index pages (at / 4096 + j))
        present j le (inl zero_j) = ap is_some (ap (page_index pages) (omega arith) ∙ found)
        present j le (inr ne) =
            let k = 4096 * (at / 4096 + j) - at in
            let number : (at + k) / 4096 ≡ at / 4096 + j = omega arith in
            subst (λ n. IsSome (page_index pages n)) number (index_within (page_index pages ((at + k) / 4096)) ((at + k) % 4096) (all k (omega arith)))

-- an access within a page that is known
pub span_in_page : (pages : List ℕ) → Rises pages → (at count page : ℕ) → 0 < count → at % 4096 + count ≤ 4096 → page_index pages (at / 4096) ≡ Some page
    → Spans pages at count (Some (4096 * page + at % 4096))
span_in_page pages rising at count page some within found =
    let last : (at + (count - 1)) / 4096 ≡ at / 4096 = omega arith in
    let there = page_index-some pages (at / 4096) page found in
    let here : page + ((at + (count - 1)) / 4096 - at / 4096) ≡ page = omega arith in
    span_found pages rising at count page (at + (count - 1)) some refl found (omega (arith, there.0))
    (ap (λ k. get_or pages k 0) here ∙ there.1 ∙ omega arith)
