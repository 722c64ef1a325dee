-- The name after another: the first of those that a tree of keys gives from the other on.
use Rattle.std.proofs.Common.{◌≡◌, ℕ, zero, suc, ◌≤◌, Bool, true, false, cond, ◌&&◌, min, List, [], ◌∷◌, length, take, filter, find, map, All, Some, None, IsSome, is_some, inl, inr, refl, sym, ap, ◌∙◌, arith}
use Rattle.std.specs.Ordering.{nat_cmp, is_le, is_lt, is_eq, ordering_then}
use Rattle.std.specs.declared.cmp.Ordering.TheVariants.{Less, Equal, Greater}
use Rattle.std.proofs.lemmas.Bool.{cases_lt}
use Rattle.std.proofs.lemmas.List.{take_all}
use Rattle.std.proofs.lemmas.List.Elements.{All-cons, All-nil, All-head, All-tail}
use Rattle.std.specs.Cmp.{tied_itself}
use Rattle.std.specs.Cmp.Lexicographic.{nat_list_cmp_total}
use Rattle.std.specs.FinMap as fin
use Rattle.mem_files.specs.Names.{bytes_cmp}
use Rattle.mem_files.specs.Inside.Cells.{keyed}
use Rattle.std.specs.declared.ops.Bound.{Bound}
use Rattle.std.specs.declared.ops.Bound.TheVariants.{Included, Excluded, Unbounded}
use Rattle.std.specs.BTreeMap.Range.{range_contains}
use Rattle.arrayvec.specs.declared.array_vec.ArrayVec.{ArrayVec}
use Rattle.mem_files.specs.Inside.Keys.{begins}

and_true : (b : Bool) → (b && true) ≡ b
and_true true = refl
and_true false = refl

-- as many bytes as there is room for
pub take_min : (name : List ℕ) (capacity : ℕ) → take (min (length name) capacity) name ≡ take capacity name
take_min name capacity = elim (cases_lt capacity (length name)) as (λ _. take (min (length name) capacity) name ≡ take capacity name) [
  | inl h ↦ ap (λ n. take n name) (let e : min (length name) capacity ≡ capacity = omega arith in e)
  | inr h ↦ ap (λ n. take n name) (let e : min (length name) capacity ≡ length name = omega arith in e) ∙ take_all (length name) name (omega arith) ∙ sym (take_all capacity name h)
]

-- a short name comes after another where it comes after the front of it
pub after_prefix : (capacity : ℕ) (given name : List ℕ) → length name ≤ capacity → is_lt (bytes_cmp (take capacity given) name) ≡ is_lt (bytes_cmp given name)
after_prefix capacity given [] h = none capacity given
  where
    none : (capacity : ℕ) (given : List ℕ) → is_lt (bytes_cmp (take capacity given) []) ≡ is_lt (bytes_cmp given [])
    none zero [] = refl
    none zero (x ∷ xs) = refl
    none (suc capacity) [] = refl
    none (suc capacity) (x ∷ xs) = refl
after_prefix zero given (y ∷ ys) h = absurd (omega arith)
after_prefix (suc capacity) [] (y ∷ ys) h = refl
after_prefix (suc capacity) (x ∷ xs) (y ∷ ys) h =
    elim (nat_cmp x y) as (λ r. is_lt (ordering_then r (bytes_cmp (take capacity xs) ys)) ≡ is_lt (ordering_then r (bytes_cmp xs ys))) [
      | Less ↦ refl
      | Equal ↦ after_prefix capacity xs ys (omega arith)
      | Greater ↦ refl
    ]

-- the names in a tree are short
pub all_short : {K X : Type 0} (view : K → List ℕ) (most : ℕ) (es : List (K × X)) → ((name : List ℕ) → IsSome (fin.find bytes_cmp name (keyed view es)) → length name ≤ most) → All (λ e. length (view e.0) ≤ most) es
all_short view most [] short = All-nil (λ e. length (view e.0) ≤ most)
all_short view most (e ∷ es) short = All-cons (λ e. length (view e.0) ≤ most) e es
    (short (view e.0) (ap (λ r. is_some (cond (is_eq r) (Some e.1) (fin.find bytes_cmp (view e.0) (keyed view es)))) (tied_itself nat_list_cmp_total (view e.0))))
    (all_short view most es (λ name held. short name (kept name (is_eq (bytes_cmp name (view e.0))) held)))
  where
    kept : (name : List ℕ) (b : Bool) → IsSome (fin.find bytes_cmp name (keyed view es)) → IsSome (cond b (Some e.1) (fin.find bytes_cmp name (keyed view es)))
    kept name true held = refl
    kept name false held = held

-- the first entry that passes a test, as the first key that passes another
module _ {K X : Type 0} (view : K → List ℕ) (most : ℕ) (inside : K × X → Bool) (test : List ℕ → Bool) (each : (e : K × X) → length (view e.0) ≤ most → inside e ≡ test (view e.0)) where
  pub first_passes : (es : List (K × X)) → All (λ e. length (view e.0) ≤ most) es → (e : K × X) (rest : List (K × X)) → filter inside es ≡ e ∷ rest → find test (map (λ e. view e.0) es) ≡ Some (view e.0)
  first_passes [] short e rest is = cc
  first_passes (x ∷ es) short e rest is = at (first_passes es (All-tail (λ e. length (view e.0) ≤ most) x es short) e rest) (inside x) refl is
    where
      at : (filter inside es ≡ e ∷ rest → find test (map (λ e. view e.0) es) ≡ Some (view e.0)) → (b : Bool) → inside x ≡ b → cond b (x ∷ filter inside es) (filter inside es) ≡ e ∷ rest → cond (test (view x.0)) (Some (view x.0)) (find test (map (λ e. view e.0) es)) ≡ Some (view e.0)
      at later true was is =
          ap (λ b. cond b (Some (view x.0)) (find test (map (λ e. view e.0) es))) (sym (each x (All-head (λ e. length (view e.0) ≤ most) x es short)) ∙ was)
          ∙ ap (λ (e : K × X). Some (view e.0)) (let same : x ≡ e = cc in same)
      at later false was is =
          ap (λ b. cond b (Some (view x.0)) (find test (map (λ e. view e.0) es))) (sym (each x (All-head (λ e. length (view e.0) ≤ most) x es short)) ∙ was)
          ∙ later is

  pub none_passes : (es : List (K × X)) → All (λ e. length (view e.0) ≤ most) es → filter inside es ≡ [] → find test (map (λ e. view e.0) es) ≡ None
  none_passes [] short is = refl
  none_passes (x ∷ es) short is = at (none_passes es (All-tail (λ e. length (view e.0) ≤ most) x es short)) (inside x) refl is
    where
      at : (filter inside es ≡ [] → find test (map (λ e. view e.0) es) ≡ None) → (b : Bool) → inside x ≡ b → cond b (x ∷ filter inside es) (filter inside es) ≡ [] → cond (test (view x.0)) (Some (view x.0)) (find test (map (λ e. view e.0) es)) ≡ None
      at later true was is = cc
      at later false was is =
          ap (λ b. cond b (Some (view x.0)) (find test (map (λ e. view e.0) es))) (sym (each x (All-head (λ e. length (view e.0) ≤ most) x es short)) ∙ was)
          ∙ later is

-- a range from a start on holds what the start begins
pub in_range : (start : Bound (ArrayVec ℕ 255 (Unit {0}))) (key : ArrayVec ℕ 255 (Unit {0})) → range_contains (λ a b. bytes_cmp a.items b.items) start Unbounded key ≡ begins start key.items
in_range (Included a) key = and_true (is_le (bytes_cmp a.items key.items))
in_range (Excluded a) key = and_true (is_lt (bytes_cmp a.items key.items))
in_range Unbounded key = refl
