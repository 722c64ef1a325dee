-- Any two rows want different values of a bit that both masks hold, so no word matches both.
use Rattle.std.proofs.Common.{◌≡◌, ℕ, ◌<◌, zero, suc, Bool, true, false, ◌&&◌, not, List, [], ◌∷◌, Some, refl, sym, ap, ◌∙◌, arith, ⊎_elim}
use Rattle.std.specs.Prelude.{◌==◌, bit_and, find, slice_get}
use Rattle.std.specs.List.{list_all}
use Rattle.std.proofs.lemmas.Nat.{and_comm, and_assoc}
use Rattle.std.proofs.lemmas.Bool.{and_parts, eqb-true, eq-eqb, cases_order, false_from_ne_true}
use Rattle.rv64_table.specs.declared.Row.{Row}
use Rattle.rv64_table.proofs.RowIndices.{list_all-at}
use Rattle.rv64_table.specs.Table.{matches, row_for, table}

-- the wanted values of two rows differ where both masks are set
abbrev pub differ : Row → Row → Bool
differ r s = not (bit_and r.want s.mask == bit_and s.want r.mask)

-- any two of these rows do
abbrev pub all_differ : List Row → Bool
all_differ [] = true
all_differ (r ∷ rows) = list_all (differ r) rows && all_differ rows

-- what both rows of a word want is what the word has where both masks are set
both_fit : (w : ℕ) (r s : Row) → matches r w ≡ true → matches s w ≡ true → differ r s ≡ false
both_fit w r s fr fs =
    let er : bit_and w r.mask ≡ r.want = eqb-true _ _ fr in
    let es : bit_and w s.mask ≡ s.want = eqb-true _ _ fs in
    let same : bit_and r.want s.mask ≡ bit_and s.want r.mask = rw (← er, ← es) (and_assoc s.mask w r.mask ∙ ap (bit_and w) (and_comm r.mask s.mask) ∙ sym (and_assoc r.mask w s.mask)) in
    ap not (eq-eqb _ _ same)

-- no word matches a row and a later one
apart-below : (w : ℕ) (rows : List Row) (i j : ℕ) (r s : Row) → all_differ rows ≡ true → i < j → slice_get rows i ≡ Some r → slice_get rows j ≡ Some s
    → matches r w ≡ true → matches s w ≡ true → ⊥
apart-below w [] i j r s h b er es fr fs = cc
apart-below w (x ∷ rows) zero zero r s h b er es fr fs = absurd (omega arith)
apart-below w (x ∷ rows) zero (suc j) r s h b er es fr fs =
    let same : x ≡ r = cc in
    let first : list_all (differ r) rows ≡ true = rw (← same) ((and_parts (list_all (differ x) rows) (all_differ rows) h).0) in
    let apart = list_all-at (differ r) rows j s first es in
    let joined = both_fit w r s fr fs in
    cc
apart-below w (x ∷ rows) (suc i) zero r s h b er es fr fs = absurd (omega arith)
apart-below w (x ∷ rows) (suc i) (suc j) r s h b er es fr fs =
    apart-below w rows i j r s ((and_parts (list_all (differ x) rows) (all_differ rows) h).1) (omega arith) er es fr fs

pub apart : (w i j : ℕ) (r s : Row) → slice_get table i ≡ Some r → slice_get table j ≡ Some s → matches r w ≡ true → matches s w ≡ true → i ≡ j
unfolding table
apart w i j r s er es fr fs =
    ⊎_elim (λ same. same) (λ two. ⊎_elim
    (λ below. absurd (apart-below w table i j r s refl below er es fr fs))
    (λ above. absurd (apart-below w table j i s r refl above es er fs fr)) two)
    (cases_order i j)

-- the first row that passes a test is the one at a place where every earlier row fails it
find-at : (p : Row → Bool) (rows : List Row) (i : ℕ) (r : Row) → slice_get rows i ≡ Some r → p r ≡ true
    → ((j : ℕ) (s : Row) → j < i → slice_get rows j ≡ Some s → p s ≡ false) → find p rows ≡ Some r
find-at p [] i r e passes before = cc
find-at p (x ∷ rows) zero r e passes before = let same : x ≡ r = cc in rw (same, passes) refl
find-at p (x ∷ rows) (suc i) r e passes before =
    rw (before zero x (omega arith) refl) (find-at p rows i r e passes (λ j s b. before (suc j) s (omega arith)))

-- a row that a word matches is the row of the word
pub row_for-matches : (w i : ℕ) (r : Row) → slice_get table i ≡ Some r → matches r w ≡ true → row_for w ≡ Some r
unfolding table
row_for-matches w i r e f =
    find-at (λ s. matches s w) table i r e f (λ j s below es. false_from_ne_true (matches s w) (λ fs. apart-below w table j i s r refl below es e fs f))
