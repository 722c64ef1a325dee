-- Going along a list by rising numbers.
use Rattle.std.proofs.Common.{◌≡◌, ℕ, suc, ◌+◌, ◌<◌, ◌≤◌, None, List, ◌∷◌, length, get_or, drop, map, sym, ap, subst, ◌∙◌, arith, ne_eqb, drop-cons}
use Rattle.save_format.specs.PatchText.Inside.Walking.{Rises, SameFrom}
use Rattle.save_format.specs.PatchText.Numbered.{item_numbered}
use Rattle.save_format.proofs.PatchTextLemmas.Rising.{after_head, none_below, rises_lower}

-- the one at an index, and those after it
pub head_at : {T : Type 0} (xs : List T) (i : ℕ) (x : T) → i < length xs → x ≡ get_or xs i x → drop i xs ≡ x ∷ drop (i + 1) xs
head_at xs i x lt is =
    let next : suc i ≡ i + 1 = omega arith in
    drop-cons xs i x lt ∙ (λ j. sym is j ∷ drop (next j) xs)

module _ {A T : Type 0} (of : A → ℕ) (seen : T → A) where
  -- the first one is not of a number that none is below: no other one is
  pub none_here : (rest more : List T) (x : T) (n : ℕ) → rest ≡ x ∷ more → Rises of n (map seen rest) → ¬ (of (seen x) ≡ n) → item_numbered of (map seen rest) n ≡ None
  none_here rest more x n e rises other =
      let up : Rises of n (map seen (x ∷ more)) = subst (λ (v : List T). Rises of n (map seen v)) e rises in
      let above : n < of (seen x) = omega (arith, up.0, other) in
      let here : item_numbered of (map seen (x ∷ more)) n ≡ None = rw (ne_eqb (of (seen x)) n other) (none_below of (of (seen x) + 1) n (map seen more) up.1 (omega (arith, above))) in
      ap (λ (v : List T). item_numbered of (map seen v) n) e ∙ here

  pub rises_from_head : (rest more : List T) (x : T) (n : ℕ) → rest ≡ x ∷ more → Rises of 0 (map seen rest) → n ≤ of (seen x) → Rises of n (map seen rest)
  rises_from_head rest more x n e rises le =
      let up : Rises of 0 (map seen (x ∷ more)) = subst (λ (v : List T). Rises of 0 (map seen v)) e rises in
      subst (λ (v : List T). Rises of n (map seen v)) (sym e) (le, up.1)

  pub rises_after : (rest more : List T) (x : T) (n : ℕ) → rest ≡ x ∷ more → Rises of n (map seen rest) → Rises of (of (seen x) + 1) (map seen more)
  rises_after rest more x n e rises =
      let up : Rises of n (map seen (x ∷ more)) = subst (λ (v : List T). Rises of n (map seen v)) e rises in
      up.1

  pub same_after : (rest more : List T) (x : T) (n : ℕ) → rest ≡ x ∷ more → of (seen x) < n → SameFrom of n (map seen rest) (map seen more)
  same_after rest more x n e lt = λ k le.
      sym (after_head of (seen x) (map seen more) k (omega (arith, lt, le))) ∙ ap (λ (v : List T). item_numbered of (map seen v) k) (sym e)

  pub rises_to : (low n : ℕ) (xs : List T) → n ≤ low → Rises of low (map seen xs) → Rises of n (map seen xs)
  rises_to low n xs le rises = rises_lower of low n (map seen xs) le rises
