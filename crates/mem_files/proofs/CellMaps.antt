-- A list of cells, of which some hold a value, as the map from their numbers to what they hold.
use Rattle.std.proofs.Common.{◌≡◌, ◌≢◌, ℕ, zero, suc, ◌+◌, ◌<◌, ◌≤◌, Bool, true, false, cond, ◌||◌, eqb, List, [], ◌∷◌, length, get_or, set, Option, Some, None, refl, sym, ap, ◌∙◌, arith}
use Rattle.std.proofs.lemmas.List.{get_or-set_same, get_or-set_other}
use Rattle.std.specs.Ordering.{nat_cmp}
use Rattle.std.specs.declared.cmp.Ordering.{Ordering}
use Rattle.std.specs.Cmp.{IsTotalOrder, nat_cmp_total, both_ways}
use Rattle.std.specs.Option.{option_map_or}
use Rattle.std.specs.List.{list_any}
use Rattle.std.proofs.lemmas.Bool.{false≢true}
use Rattle.std.proofs.lemmas.Option.{none-some}
use Rattle.std.specs.FinMap.{get, insert, remove, values, find, get-from_entries, contains_key, from_entries, len, len-empty, len-insert}
use Rattle.mem_files.specs.Inside.Cells.{numbered, map_of, SameCells}
use Rattle.mem_files.proofs.Maps.{find_apart, find_here, get-insert_nat, get-remove_nat, same_nat_map, any_at, key_of_any}
use Rattle.std.proofs.lemmas.Bool.Decides.{nat_tests}

find_before : {X : Type 0} (n q : ℕ) (cells : List (Option X)) → q < n → find nat_cmp q (numbered n cells) ≡ None
find_before n q [] h = refl
find_before n q (None ∷ cells) h = find_before (suc n) q cells (omega arith)
find_before n q (Some x ∷ cells) h = find_apart q (n, x) (numbered (suc n) cells) (omega arith) ∙ find_before (suc n) q cells (omega arith)

-- the cell k places on from number n
find_numbered : {X : Type 0} (n k : ℕ) (cells : List (Option X)) → find nat_cmp (n + k) (numbered n cells) ≡ get_or cells k None
find_numbered n k [] = refl
find_numbered n zero (None ∷ cells) = find_before (suc n) (n + 0) cells (omega arith)
find_numbered n zero (Some x ∷ cells) = find_here (n + 0) (n, x) (numbered (suc n) cells) (omega arith)
find_numbered n (suc k) (None ∷ cells) = ap (λ q. find nat_cmp q (numbered (suc n) cells)) (let e : n + suc k ≡ suc n + k = omega arith in e) ∙ find_numbered (suc n) k cells
find_numbered n (suc k) (Some x ∷ cells) =
    find_apart (n + suc k) (n, x) (numbered (suc n) cells) (omega arith)
    ∙ ap (λ q. find nat_cmp q (numbered (suc n) cells)) (let e : n + suc k ≡ suc n + k = omega arith in e) ∙ find_numbered (suc n) k cells

pub get-map_of : {X : Type 0} (cells : List (Option X)) (q : ℕ) → get (map_of cells) q ≡ get_or cells q None
get-map_of cells q = get-from_entries nat_cmp_total (numbered 0 cells) q ∙ ap (λ k. find nat_cmp k (numbered 0 cells)) (let e : q ≡ 0 + q = omega arith in e) ∙ find_numbered 0 q cells

-- a write to a cell that is there
pub at_set : {X : Type 0} (cells : List (Option X)) (i q : ℕ) (cell : Option X) → i < length cells → get_or (set cells i cell) q None ≡ cond (eqb q i) cell (get_or cells q None)
at_set cells i q cell h =
    elim (eqb q i) as (λ b. eqb q i ≡ b → get_or (set cells i cell) q None ≡ cond b cell (get_or cells q None)) [
      | true ↦ λ e. let p : q ≡ i = (grind (arith, nat_tests)) in ap (λ k. get_or (set cells i cell) k None) p ∙ get_or-set_same cells i cell None h
      | false ↦ λ e. let p : q ≢ i = (grind (arith, nat_tests)) in get_or-set_other cells i q cell None p
    ] refl

pub map_of-fill : {X : Type 0} (cells : List (Option X)) (i : ℕ) (x : X) → i < length cells → map_of (set cells i (Some x)) ≡ insert (map_of cells) i x
map_of-fill cells i x h =
    same_nat_map _ _ (λ q. get-map_of (set cells i (Some x)) q ∙ at_set cells i q (Some x) h ∙ ap (cond (eqb q i) (Some x)) (sym (get-map_of cells q)) ∙ sym (get-insert_nat (map_of cells) i x q))

pub map_of-empty : {X : Type 0} (cells : List (Option X)) (i : ℕ) → i < length cells → map_of (set cells i None) ≡ remove (map_of cells) i
map_of-empty cells i h =
    same_nat_map _ _ (λ q. get-map_of (set cells i None) q ∙ at_set cells i q None h ∙ ap (cond (eqb q i) None) (sym (get-map_of cells q)) ∙ sym (get-remove_nat (map_of cells) i q))

-- empty cells more
pub map_of-same : {X : Type 0} (cells more : List (Option X)) → SameCells cells more → map_of more ≡ map_of cells
map_of-same cells more same = same_nat_map _ _ (λ q. get-map_of more q ∙ same q ∙ sym (get-map_of cells q))

-- no more values than entries, or than cells
one_at_most : (b : Bool) (m n : ℕ) → n ≡ cond b m (m + 1) → n ≤ m + 1
one_at_most true m n e = omega arith
one_at_most false m n e = omega arith

pub len-from_entries : {K X : Type 0} {R : K → K → Ordering} → IsTotalOrder R → (es : List (K × X)) → len (from_entries {R = R} es) ≤ length es
len-from_entries {X = X} {R} o [] = omega (arith, len-empty R X)
len-from_entries {R = R} o (e ∷ es) =
    omega (arith, one_at_most (contains_key (from_entries {R = R} es) e.0) (len (from_entries {R = R} es)) _ (len-insert o (from_entries es) e.0 e.1), len-from_entries o es)

length-numbered : {X : Type 0} (n : ℕ) (cells : List (Option X)) → length (numbered n cells) ≤ length cells
length-numbered n [] = omega arith
length-numbered n (None ∷ cells) = omega (arith, length-numbered (suc n) cells)
length-numbered n (Some x ∷ cells) = omega (arith, length-numbered (suc n) cells)

pub len-map_of : {X : Type 0} (cells : List (Option X)) → len (map_of cells) ≤ length cells
len-map_of cells = omega (arith, len-from_entries nat_cmp_total (numbered 0 cells), length-numbered 0 cells)

-- a test of some value, as a test of the cells
module _ {X : Type 0} (p : X → Bool) where
  passing_cell : (cells : List (Option X)) → list_any (λ cell. option_map_or p cell false) cells ≡ true → (k : ℕ) × (x : X) × (get_or cells k None ≡ Some x) × (p x ≡ true)
  passing_cell [] h = absurd (false≢true h)
  passing_cell (None ∷ cells) h = let found = passing_cell cells h in (suc found.0, found.1, found.2, found.3)
  passing_cell (Some x ∷ cells) h =
      elim (p x) as (λ b. p x ≡ b → (b || list_any (λ cell. option_map_or p cell false) cells) ≡ true → (k : ℕ) × (y : X) × (get_or (Some x ∷ cells) k None ≡ Some y) × (p y ≡ true)) [
        | true ↦ λ e _. (0, x, refl, e)
        | false ↦ λ _ later. let found = passing_cell cells later in (suc found.0, found.1, found.2, found.3)
      ] refl h

  cell_passes : (cells : List (Option X)) (k : ℕ) (x : X) → get_or cells k None ≡ Some x → p x ≡ true → list_any (λ cell. option_map_or p cell false) cells ≡ true
  cell_passes [] k x is passes = absurd (none-some x is)
  cell_passes (c ∷ cells) zero x is passes = ap (λ cell. option_map_or p cell false || list_any (λ cell. option_map_or p cell false) cells) is ∙ ap (λ b. b || list_any (λ cell. option_map_or p cell false) cells) passes
  cell_passes (c ∷ cells) (suc k) x is passes = or_true (option_map_or p c false) _ (cell_passes cells k x is passes)
    where
      or_true : (a b : Bool) → b ≡ true → (a || b) ≡ true
      or_true true b h = refl
      or_true false b h = h

  pub any-map_of : (cells : List (Option X)) → list_any p (values (map_of cells)) ≡ list_any (λ cell. option_map_or p cell false) cells
  any-map_of cells = both_ways _ _
      (λ h. let key = key_of_any nat_cmp_total p (map_of cells) h in cell_passes cells key.0 key.1 (sym (get-map_of cells key.0) ∙ key.2) key.3)
      (λ h. let found = passing_cell cells h in any_at nat_cmp_total p (map_of cells) found.0 found.1 (get-map_of cells found.0 ∙ found.2) found.3)
