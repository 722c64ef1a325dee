-- What stands in a finite map after a change, case by case.
use Rattle.std.proofs.Common.{◌≡◌, ◌≢◌, ℕ, true, false, cond, ◌⊎◌, inl, inr, List, Option, Some, None, IsSome, is_some, refl, sym, ap, ◌∙◌}
use Rattle.std.proofs.lemmas.Bool.{false≢true}
use Rattle.std.proofs.lemmas.Option.{none-some, same_Some}
use Rattle.std.specs.Ordering.{eq_by_cmp, is_eq, nat_cmp}
use Rattle.std.specs.declared.cmp.Ordering.{Ordering}
use Rattle.std.specs.Cmp.{IsTotalOrder, tied_itself, nat_cmp_total}
use Rattle.std.specs.Cmp.Lexicographic.{nat_list_cmp_total}
use Rattle.std.specs.FinMap.{FinMap, IsAntisymmetric, nat_cmp-IsAntisymmetric, get, insert, remove, get-insert, get-remove}
use Rattle.mem_files.specs.Names.{bytes_cmp}
use Rattle.mem_files.proofs.Directory.{equal, bytes_cmp-IsAntisymmetric}

pub some_of : {X : Type 0} (o : Option X) → IsSome o → (x : X) × (o ≡ Some x)
some_of None h = absurd (false≢true h)
some_of (Some x) h = (x, refl)

pub is_some_of : {X : Type 0} {o : Option X} (x : X) → o ≡ Some x → IsSome o
is_some_of x e = ap is_some e

module _ {K : Type 0} {R : K → K → Ordering} (o : IsTotalOrder R) (same : IsAntisymmetric R) where
  tie : (q k : K) → q ≡ k → eq_by_cmp R q k ≡ true
  tie q k e = ap (λ x. eq_by_cmp R x k) e ∙ ap is_eq (tied_itself o k)

  by_tie : {P : Type 0} (q k : K) → (q ≡ k → P) → (q ≢ k → P) → P
  by_tie {P} q k here there = elim (eq_by_cmp R q k) as (λ b. eq_by_cmp R q k ≡ b → P) [
    | true ↦ λ t. here (same q k (equal (R q k) t))
    | false ↦ λ f. there (λ e. false≢true (sym f ∙ tie q k e))
  ] refl

  apart : (q k : K) → q ≢ k → eq_by_cmp R q k ≡ false
  apart q k ne = elim (eq_by_cmp R q k) as (λ b. eq_by_cmp R q k ≡ b → b ≡ false) [ true ↦ λ t. absurd (ne (same q k (equal (R q k) t))) | false ↦ λ _. refl ] refl

module _ {K X : Type 0} {R : K → K → Ordering} (o : IsTotalOrder R) (same : IsAntisymmetric R) where
  here_of : (m : FinMap R X) (k : K) (v : X) → get (insert m k v) k ≡ Some v
  here_of m k v = get-insert o m k v k ∙ ap (λ b. cond b (Some v) (get m k)) (tie o same k k refl)

  there_of : (m : FinMap R X) (k : K) (v : X) (q : K) → q ≢ k → get (insert m k v) q ≡ get m q
  there_of m k v q ne = get-insert o m k v q ∙ ap (λ b. cond b (Some v) (get m q)) (apart o same q k ne)

  left_of : (m : FinMap R X) (k q : K) → q ≢ k → get (remove m k) q ≡ get m q
  left_of m k q ne = get-remove o m k q ∙ ap (λ b. cond b None (get m q)) (apart o same q k ne)

  gone_of : (m : FinMap R X) (k : K) → get (remove m k) k ≡ None
  gone_of m k = get-remove o m k k ∙ ap (λ b. cond b None (get m k)) (tie o same k k refl)

  insert_cases_of : (m : FinMap R X) (k : K) (v : X) (q : K) (x : X) → get (insert m k v) q ≡ Some x → ((q ≡ k) × (v ≡ x)) ⊎ ((q ≢ k) × (get m q ≡ Some x))
  insert_cases_of m k v q x e = by_tie o same q k
      (λ is. inl (is, same_Some v x (sym (here_of m k v) ∙ ap (get (insert m k v)) (sym is) ∙ e)))
      (λ ne. inr (ne, sym (there_of m k v q ne) ∙ e))

  remove_cases_of : (m : FinMap R X) (k q : K) (x : X) → get (remove m k) q ≡ Some x → (q ≢ k) × (get m q ≡ Some x)
  remove_cases_of m k q x e = by_tie o same q k
      (λ is. absurd (none-some x (sym (gone_of m k) ∙ ap (get (remove m k)) (sym is) ∙ e)))
      (λ ne. (ne, sym (left_of m k q ne) ∙ e))

  insert_some_of : (m : FinMap R X) (k : K) (v : X) (q : K) → IsSome (get m q) → IsSome (get (insert m k v) q)
  insert_some_of m k v q h = by_tie o same q k (λ is. ap is_some (ap (get (insert m k v)) is ∙ here_of m k v)) (λ ne. ap is_some (there_of m k v q ne) ∙ h)

-- at numbers
module _ {X : Type 0} (m : FinMap nat_cmp X) where
  pub here : (k : ℕ) (v : X) → get (insert m k v) k ≡ Some v
  here = here_of nat_cmp_total nat_cmp-IsAntisymmetric m

  pub insert_cases : (k : ℕ) (v : X) (q : ℕ) (x : X) → get (insert m k v) q ≡ Some x → ((q ≡ k) × (v ≡ x)) ⊎ ((q ≢ k) × (get m q ≡ Some x))
  insert_cases = insert_cases_of nat_cmp_total nat_cmp-IsAntisymmetric m

  pub remove_cases : (k q : ℕ) (x : X) → get (remove m k) q ≡ Some x → (q ≢ k) × (get m q ≡ Some x)
  remove_cases = remove_cases_of nat_cmp_total nat_cmp-IsAntisymmetric m

  pub insert_some : (k : ℕ) (v : X) (q : ℕ) → IsSome (get m q) → IsSome (get (insert m k v) q)
  insert_some = insert_some_of nat_cmp_total nat_cmp-IsAntisymmetric m

  pub there : (k : ℕ) (v : X) (q : ℕ) → q ≢ k → get (insert m k v) q ≡ get m q
  there = there_of nat_cmp_total nat_cmp-IsAntisymmetric m

  pub left : (k q : ℕ) → q ≢ k → get (remove m k) q ≡ get m q
  left = left_of nat_cmp_total nat_cmp-IsAntisymmetric m

-- at names
module _ {X : Type 0} (m : FinMap bytes_cmp X) where
  pub name_here : (k : List ℕ) (v : X) → get (insert m k v) k ≡ Some v
  name_here = here_of nat_list_cmp_total bytes_cmp-IsAntisymmetric m

  pub name_there : (k : List ℕ) (v : X) (q : List ℕ) → q ≢ k → get (insert m k v) q ≡ get m q
  name_there = there_of nat_list_cmp_total bytes_cmp-IsAntisymmetric m

  pub name_insert_cases : (k : List ℕ) (v : X) (q : List ℕ) (x : X) → get (insert m k v) q ≡ Some x → ((q ≡ k) × (v ≡ x)) ⊎ ((q ≢ k) × (get m q ≡ Some x))
  name_insert_cases = insert_cases_of nat_list_cmp_total bytes_cmp-IsAntisymmetric m

  pub name_remove_cases : (k q : List ℕ) (x : X) → get (remove m k) q ≡ Some x → (q ≢ k) × (get m q ≡ Some x)
  name_remove_cases = remove_cases_of nat_list_cmp_total bytes_cmp-IsAntisymmetric m

  pub name_left : (k q : List ℕ) → q ≢ k → get (remove m k) q ≡ get m q
  name_left = left_of nat_list_cmp_total bytes_cmp-IsAntisymmetric m
