-- What the memory of rising pages answers at an address, by the place of its page.
use Rattle.std.proofs.Common.{◌≡◌, ◌≢◌, ℕ, zero, suc, ◌+◌, ◌-◌, ◌^◌, ◌<◌, ◌≤◌, Option, None, Some, IsSome, add-zero, List, [], ◌∷◌, length, get_or, refl, sym, ap, ◌∙◌, arith, ◌⊎◌, inl, inr, Bool, true, false, ◌&&◌, ◌==◌, nat_lt}
use Rattle.std.specs.Option.{option_map}
use Rattle.std.proofs.lemmas.Bool.{cases_eq, cases_order, and_parts, and_from, ltb-true, lt-ltb, eqb-true, eq-eqb, false≢true}
use Rattle.ddc_base.specs.Limits.{page_number_end}
use Rattle.paged_mem.specs.Inside.Flat.{page_index, Rises, AreLow, IsRank}
use Rattle.paged_mem.specs.Inside.Wholeness.{page_index_here, page_index_later, page_index-some}

-- the page with a number stands at one place, and where no page has it there is none
Rises-tail : (page : ℕ) (pages : List ℕ) → Rises (page ∷ pages) → Rises pages
Rises-tail page pages rising = λ i j below within. rising (suc i) (suc j) (omega arith) (omega arith)

pub page_index-at : (pages : List ℕ) → Rises pages → (number i : ℕ) → i < length pages → get_or pages i 0 ≡ number → page_index pages number ≡ Some i
page_index-at [] rising number i within e = absurd (omega arith)
page_index-at (page ∷ pages) rising number zero within e = page_index_here page number pages e
page_index-at (page ∷ pages) rising number (suc i) within e =
    let above : page < get_or pages i 0 = rising 0 (suc i) (omega arith) within in
    page_index_later page number pages (λ same. omega arith) ∙ ap (option_map (λ i. 1 + i)) (page_index-at pages (Rises-tail page pages rising) number i (omega arith) e) ∙ ap Some (omega arith)

pub page_index-none : (pages : List ℕ) (number : ℕ) → ((k : ℕ) → k < length pages → get_or pages k 0 ≢ number) → page_index pages number ≡ None
page_index-none [] number apart = unfold page_index in refl
page_index-none (page ∷ pages) number apart =
    page_index_later page number pages (apart 0 (omega arith)) ∙ ap (option_map (λ i. 1 + i)) (page_index-none pages number (λ k within. apart (suc k) (omega arith)))

pub never_falls : (pages : List ℕ) → Rises pages → (i j : ℕ) → i ≤ j → j < length pages → get_or pages i 0 ≤ get_or pages j 0
never_falls pages rising i j le within = step (cases_eq i j)
  where
    step : (i ≡ j) ⊎ (i ≢ j) → get_or pages i 0 ≤ get_or pages j 0
    step (inl same) = omega (arith, ap (λ k. get_or pages k 0) same)
    step (inr ne) = omega (arith, rising i j (omega arith) within)

-- a page's place is the rank of its number
pub rank_found : (pages : List ℕ) → Rises pages → (number i : ℕ) → i < length pages → get_or pages i 0 ≡ number → IsRank pages number i
rank_found pages rising number i within at = record {
  within = omega arith;
  below = λ k below. omega (arith, rising k i below within);
  above = λ k from in_range. omega (arith, never_falls pages rising i k from in_range);
}

-- where the rank of a number is not its place, no page has it
pub page_index-rank : (pages : List ℕ) (number rank : ℕ) → Rises pages → IsRank pages number rank → (rank < length pages → get_or pages rank 0 ≢ number) → page_index pages number ≡ None
page_index-rank pages number rank rising is ne = page_index-none pages number (λ k within e. apart k within e (cases_order k rank))
  where
    apart : (k : ℕ) → k < length pages → get_or pages k 0 ≡ number → (k ≡ rank) ⊎ ((k < rank) ⊎ (rank < k)) → ⊥
    apart k within e (inl same) = ne (omega arith) (ap (λ k. get_or pages k 0) (sym same) ∙ e)
    apart k within e (inr (inl below)) = omega (arith, is.below k below)
    apart k within e (inr (inr above)) = omega (arith, rising rank k above within, is.above rank (omega arith) (omega arith))

-- by the test of one index: it holds at the place of the page, and nowhere where it fails at the rank
abbrev pub is_at : List ℕ → ℕ → ℕ → Bool
is_at pages index number = nat_lt index (length pages) && get_or pages index 0 == number

pub page_index-tested : (pages : List ℕ) → Rises pages → (number index : ℕ) (test : Bool) → test ≡ is_at pages index number → test ≡ true → page_index pages number ≡ Some index
page_index-tested pages rising number index test is holds =
    let both = and_parts (nat_lt index (length pages)) (get_or pages index 0 == number) (sym is ∙ holds) in
    page_index-at pages rising number index (ltb-true _ _ both.0) (eqb-true _ _ both.1)

pub page_index-untested : (pages : List ℕ) → Rises pages → (number rank : ℕ) (test : Bool) → test ≡ is_at pages rank number → IsRank pages number rank → test ≡ false → page_index pages number ≡ None
page_index-untested pages rising number rank test is at fails =
    page_index-rank pages number rank rising at (λ within same. false≢true (sym fails ∙ is ∙ and_from _ _ (lt-ltb _ _ within) (eq-eqb _ _ same)))

-- from one page to a later one the number rises at least as much as the place
pub rising_by : (pages : List ℕ) → Rises pages → (i more : ℕ) → i + more < length pages → get_or pages i 0 + more ≤ get_or pages (i + more) 0
rising_by pages rising i zero within = omega (arith, ap (λ k. get_or pages k 0) (add-zero i))
rising_by pages rising i (suc more) within =
    omega (arith, rising_by pages rising i more (omega arith), rising (i + more) (i + suc more) (omega arith) within)

-- there are at most 2 ^ 26 pages
pub few_pages : (pages : List ℕ) → Rises pages → AreLow pages → length pages ≤ page_number_end
few_pages pages rising low = few (cases_eq (length pages) 0)
  where
    few : (length pages ≡ 0) ⊎ (length pages ≢ 0) → length pages ≤ page_number_end
    few (inl none) = omega arith
    few (inr some) =
        let last = length pages - 1 in
        let at : get_or pages 0 0 + last ≤ get_or pages (0 + last) 0 = rising_by pages rising 0 last (omega arith) in
        let top : get_or pages (0 + last) 0 < page_number_end = low (0 + last) (omega arith) in
        omega arith

-- pages with numbers in a row stand in a row
pub in_a_row : (pages : List ℕ) → Rises pages → (page i : ℕ) → page_index pages page ≡ Some i → (more : ℕ) → ((k : ℕ) → k ≤ more → IsSome (page_index pages (page + k))) → page_index pages (page + more) ≡ Some (i + more)
in_a_row pages rising page i at zero present = ap (page_index pages) (add-zero page) ∙ at ∙ ap Some (sym (add-zero i))
in_a_row pages rising page i at (suc more) present =
    next (in_a_row pages rising page i at more (λ k le. present k (omega arith))) (page_index pages (page + suc more)) refl (present (suc more) (omega arith))
  where
    next : page_index pages (page + more) ≡ Some (i + more) → (o : Option ℕ) → page_index pages (page + suc more) ≡ o → IsSome o → o ≡ Some (i + suc more)
    next before None was there = cc
    next before (Some j) was there =
        let low = page_index-some pages (page + more) (i + more) before in
        let high = page_index-some pages (page + suc more) j was in
        ap Some (found low high (cases_order j (i + suc more)))
      where
        earlier : (i + more < length pages) × (get_or pages (i + more) 0 ≡ page + more) → (j < length pages) × (get_or pages j 0 ≡ page + suc more) → j < i + suc more → (j ≡ i + more) ⊎ (j ≢ i + more) → j ≡ i + suc more
        earlier low high below (inl same) = absurd (omega (arith, low.1, high.1, ap (λ k. get_or pages k 0) same))
        earlier low high below (inr ne) = absurd (omega (arith, low.1, high.1, rising j (i + more) (omega arith) low.0))

        found : (i + more < length pages) × (get_or pages (i + more) 0 ≡ page + more) → (j < length pages) × (get_or pages j 0 ≡ page + suc more) → (j ≡ i + suc more) ⊎ ((j < i + suc more) ⊎ (i + suc more < j)) → j ≡ i + suc more
        found low high (inl same) = same
        found low high (inr (inl below)) = earlier low high below (cases_eq j (i + more))
        found low high (inr (inr above)) = absurd (omega (arith, low.1, high.1, rising (i + more) (i + suc more) (omega arith) (omega (arith, high.0)), rising (i + suc more) j above high.0))
