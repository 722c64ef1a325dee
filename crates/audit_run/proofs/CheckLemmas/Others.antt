-- The first item at which two lists differ, found by going over both.
use Rattle.std.proofs.Common.{◌≡◌, ◌≢◌, ℕ, zero, suc, ◌<◌, true, false, if◌then◌else◌, None, Some, List, [], ◌∷◌, length, get_or, min, refl, ap, ◌∙◌, arith}
use Rattle.std.specs.Prelude.{option_map}
use Rattle.hex_langs.specs.declared.items.item.Item.{Item}
use Rattle.audit_rules.specs.SourceCheck.Checks.{first_other_item, same_item}

-- the lists agree before an index
abbrev pub SameBelow : List Item → List Item → ℕ → Type 0
SameBelow a b count = (i : ℕ) → i < count → (d : Item) → same_item (get_or a i d) (get_or b i d) ≡ true

pub other-at : (a b : List Item) (k : ℕ) → SameBelow a b k → k < length a → k < length b
    → ((d : Item) → same_item (get_or a k d) (get_or b k d) ≡ false) → first_other_item a b ≡ Some k
other-at [] b k same in_a in_b differs = absurd (omega arith)
other-at (x ∷ a) [] k same in_a in_b differs = absurd (omega arith)
other-at (x ∷ a) (y ∷ b) zero same in_a in_b differs = ap (λ t. if t then option_map suc (first_other_item a b) else Some 0) (differs x)
other-at (x ∷ a) (y ∷ b) (suc k) same in_a in_b differs =
    ap (λ t. if t then option_map suc (first_other_item a b) else Some 0) (same 0 (omega arith) x)
    ∙ ap (option_map suc) (other-at a b k (λ i less d. same (suc i) (omega arith) d) (omega arith) (omega arith) differs)

pub other-end : (a b : List Item) (k : ℕ) → SameBelow a b k → k ≡ min (length a) (length b) → length a ≢ length b → first_other_item a b ≡ Some k
other-end [] [] k same at apart = absurd (apart refl)
other-end [] (y ∷ b) k same at apart = ap Some (omega (arith, at))
other-end (x ∷ a) [] k same at apart = ap Some (omega (arith, at))
other-end (x ∷ a) (y ∷ b) zero same at apart = absurd (omega (arith, at))
other-end (x ∷ a) (y ∷ b) (suc k) same at apart =
    ap (λ t. if t then option_map suc (first_other_item a b) else Some 0) (same 0 (omega arith) x)
    ∙ ap (option_map suc) (other-end a b k (λ i less d. same (suc i) (omega arith) d) (omega (arith, at)) (λ e. apart (ap suc e)))

pub other-none : (a b : List Item) → SameBelow a b (length a) → length a ≡ length b → first_other_item a b ≡ None
other-none [] [] same at = refl
other-none [] (y ∷ b) same at = absurd (omega (arith, at))
other-none (x ∷ a) [] same at = absurd (omega (arith, at))
other-none (x ∷ a) (y ∷ b) same at =
    ap (λ t. if t then option_map suc (first_other_item a b) else Some 0) (same 0 (omega arith) x)
    ∙ ap (option_map suc) (other-none a b (λ i less d. same (suc i) (omega arith) d) (omega (arith, at)))
