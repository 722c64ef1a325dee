-- Finite maps: totals over their values, tests of their values, and the lowest unused number.
use Rattle.std.proofs.Common.{◌≡◌, ◌≢◌, ℕ, ◌+◌, ◌<◌, ◌≤◌, Bool, true, false, cond, ◌||◌, ◌&&◌, eqb, T, List, [], ◌∷◌, map, Option, Some, None, IsSome, is_some, refl, sym, ap, ◌∙◌, subst, arith, sum_by, inl, inr, eq-eqb}
use Rattle.std.specs.List.{list_any}
use Rattle.std.specs.Ordering.{nat_cmp, eq_by_cmp, is_eq, is_lt, MatchOrdering}
use Rattle.std.specs.declared.cmp.Ordering.{Ordering}
use Rattle.std.specs.declared.cmp.Ordering.TheVariants.{Less, Equal, Greater}
use Rattle.std.specs.Cmp.{IsTotalOrder, nat_cmp_total, unsigned_tied, ranks, tied_itself}
use Rattle.std.specs.FinMap.{FinMap, nat_cmp-IsAntisymmetric, get, insert, remove, values, keys, entries, entries-insert, entries_sorted, get-entries, get-insert, get-remove, same_map, find, put, is_sorted, contains_key-keys, len, len-entries}
use Rattle.std.specs.FinMap.Entries.{below_all, by_order}
use Rattle.std.proofs.lemmas.Bool.{cases_lt, false≢true}
use Rattle.std.proofs.lemmas.Bool.Decides.{nat_tests}
use Rattle.std.proofs.lemmas.Map.Steps.{le-length_from_below}
use Rattle.std.proofs.lemmas.List.{length-map}
use Rattle.std.proofs.lemmas.List.Sums.{sum_by-cons}
use Rattle.std.proofs.lemmas.Option.{none-some, same_Some}
use Rattle.mem_files.specs.World.{first_gap, lowest_unused}

-- at numbers the keys are told apart by `==`
pub get-insert_nat : {X : Type 0} (m : FinMap nat_cmp X) (k : ℕ) (v : X) (q : ℕ) → get (insert m k v) q ≡ cond (eqb q k) (Some v) (get m q)
get-insert_nat m k v q = get-insert nat_cmp_total m k v q ∙ ap (λ b. cond b (Some v) (get m q)) (unsigned_tied q k)

pub get-remove_nat : {X : Type 0} (m : FinMap nat_cmp X) (k q : ℕ) → get (remove m k) q ≡ cond (eqb q k) None (get m q)
get-remove_nat m k q = get-remove nat_cmp_total m k q ∙ ap (λ b. cond b None (get m q)) (unsigned_tied q k)

pub same_nat_map : {X : Type 0} (m n : FinMap nat_cmp X) → ((q : ℕ) → get m q ≡ get n q) → m ≡ n
same_nat_map m n is = same_map nat_cmp_total nat_cmp-IsAntisymmetric m n is

-- what was put at an unused number is taken off again
pub remove-insert : {X : Type 0} (m : FinMap nat_cmp X) (k : ℕ) (v : X) → get m k ≡ None → remove (insert m k v) k ≡ m
remove-insert m k v none =
    same_nat_map _ m (λ q. get-remove_nat (insert m k v) k q ∙ ap (cond (eqb q k) None) (get-insert_nat m k v q)
    ∙ elim (eqb q k) as (λ b. eqb q k ≡ b → cond b None (cond b (Some v) (get m q)) ≡ get m q) [
      | true ↦ λ e. let p : q ≡ k = (grind (arith, nat_tests)) in sym none ∙ ap (get m) (sym p)
      | false ↦ λ e. refl
    ] refl)

-- a map is what it is without a key, and that key
pub insert-remove : {X : Type 0} (m : FinMap nat_cmp X) (k : ℕ) (v : X) → get m k ≡ Some v → insert (remove m k) k v ≡ m
insert-remove m k v is =
    same_nat_map _ m (λ q. get-insert_nat (remove m k) k v q ∙ ap (cond (eqb q k) (Some v)) (get-remove_nat m k q)
    ∙ elim (eqb q k) as (λ b. eqb q k ≡ b → cond b (Some v) (cond b None (get m q)) ≡ get m q) [
      | true ↦ λ e. let p : q ≡ k = (grind (arith, nat_tests)) in sym is ∙ ap (get m) (sym p)
      | false ↦ λ e. refl
    ] refl)

pub remove_absent : {X : Type 0} (m : FinMap nat_cmp X) (k : ℕ) → get m k ≡ None → remove m k ≡ m
remove_absent m k none =
    same_nat_map _ m (λ q. get-remove_nat m k q
    ∙ elim (eqb q k) as (λ b. eqb q k ≡ b → cond b None (get m q) ≡ get m q) [
      | true ↦ λ e. let p : q ≡ k = (grind (arith, nat_tests)) in sym none ∙ ap (get m) (sym p)
      | false ↦ λ e. refl
    ] refl)

-- entries in order
pub both : (a b : Bool) → T (a && b) → T a × T b
both true b h = (tt, h)
both false b h = absurd h

lower : (x y : ℕ) (r : Ordering) → MatchOrdering r (x < y) (x ≡ y) (y < x) → T (is_lt r) → x < y
lower x y Less h t = h
lower x y Equal h t = absurd t
lower x y Greater h t = absurd t

pub head_above : {X : Type 0} (x : ℕ) (e : ℕ × X) (es : List (ℕ × X)) → T (below_all nat_cmp x (e ∷ es)) → x < e.0
head_above x e es h = lower x e.0 _ (ranks x e.0) (both _ _ h).0

pub rest_above : {X : Type 0} (x : ℕ) (e : ℕ × X) (es : List (ℕ × X)) → T (below_all nat_cmp x (e ∷ es)) → T (below_all nat_cmp x es)
rest_above x e es h = (both (is_lt (nat_cmp x e.0)) (below_all nat_cmp x es) h).1

apart : (x y : ℕ) → x ≢ y → eqb x y ≡ false
apart x y h = grind (arith, nat_tests)

pub find_apart : {X : Type 0} (q : ℕ) (e : ℕ × X) (es : List (ℕ × X)) → q ≢ e.0 → find nat_cmp q (e ∷ es) ≡ find nat_cmp q es
find_apart q e es h = ap (λ b. cond b (Some e.1) (find nat_cmp q es)) (unsigned_tied q e.0 ∙ apart q e.0 h)

pub find_here : {X : Type 0} (q : ℕ) (e : ℕ × X) (es : List (ℕ × X)) → q ≡ e.0 → find nat_cmp q (e ∷ es) ≡ Some e.1
find_here q e es h = ap (λ b. cond b (Some e.1) (find nat_cmp q es)) (unsigned_tied q e.0 ∙ eq-eqb q e.0 h)

-- a number at most as great as one below all keys is no key
pub find_low : {X : Type 0} (q x : ℕ) (es : List (ℕ × X)) → q ≤ x → T (below_all nat_cmp x es) → find nat_cmp q es ≡ None
find_low q x [] h below = refl
find_low q x (e ∷ es) h below =
    let above = head_above x e es below in
    find_apart q e es (omega arith) ∙ find_low q x es h (rest_above x e es below)

-- the first key, if there is one, is at least n
IsFrom : {X : Type 0} → ℕ → List (ℕ × X) → Type 0
IsFrom n [] = Unit {0}
IsFrom n (e ∷ es) = n ≤ e.0

after_head : {X : Type 0} (x : ℕ) (es : List (ℕ × X)) → T (below_all nat_cmp x es) → IsFrom (x + 1) es
unfolding IsFrom
after_head x [] h = tt
after_head x (e ∷ es) h = let above = head_above x e es h in omega arith

gap : {X : Type 0} → ℕ → List (ℕ × X) → ℕ
gap n es = first_gap n (map (λ e. e.0) es)

gap_from : {X : Type 0} (n : ℕ) (es : List (ℕ × X)) → n ≤ gap n es
unfolding gap
gap_from n [] = omega arith
gap_from n (e ∷ es) =
    elim (eqb e.0 n) as (λ b. n ≤ cond b (first_gap (n + 1) (map (λ e. e.0) es)) n) [ true ↦ omega (arith, gap_from (n + 1) es) | false ↦ omega arith ]

gap_free : {X : Type 0} (n : ℕ) (es : List (ℕ × X)) → T (is_sorted nat_cmp es) → IsFrom n es → find nat_cmp (gap n es) es ≡ None
unfolding gap IsFrom
gap_free n [] s h = refl
gap_free n (e ∷ es) s h =
    let ordered = both (below_all nat_cmp e.0 es) (is_sorted nat_cmp es) s in
    elim (eqb e.0 n) as (λ b. eqb e.0 n ≡ b → find nat_cmp (cond b (gap (n + 1) es) n) (e ∷ es) ≡ None) [
      | true ↦ λ is. let p : e.0 ≡ n = (grind (arith, nat_tests)) in
          let from = gap_from (n + 1) es in
          find_apart (gap (n + 1) es) e es (omega arith) ∙ gap_free (n + 1) es ordered.1 (subst (λ k. IsFrom (k + 1) es) p (after_head e.0 es ordered.0))
      | false ↦ λ is. let p : e.0 ≢ n = (grind (arith, nat_tests)) in find_apart n e es (omega arith) ∙ find_low n e.0 es h ordered.0
    ] refl

gap_below : {X : Type 0} (n q : ℕ) (es : List (ℕ × X)) → n ≤ q → q < gap n es → IsSome (find nat_cmp q es)
unfolding gap
gap_below n q [] h below = absurd (omega arith)
gap_below n q (e ∷ es) h below =
    elim (eqb e.0 n) as (λ b. eqb e.0 n ≡ b → q < cond b (gap (n + 1) es) n → IsSome (find nat_cmp q (e ∷ es))) [
      | true ↦ λ is less. let p : e.0 ≡ n = (grind (arith, nat_tests)) in
          elim (eqb q n) as (λ b. eqb q n ≡ b → IsSome (find nat_cmp q (e ∷ es))) [
            | true ↦ λ here. let r : q ≡ e.0 = (grind (arith, nat_tests)) in ap is_some (find_here q e es r)
            | false ↦ λ there. let r : q ≢ n = (grind (arith, nat_tests)) in ap is_some (find_apart q e es (omega arith)) ∙ gap_below (n + 1) q es (omega arith) less
          ] refl
      | false ↦ λ is less. absurd (omega arith)
    ] refl below

module _ {X : Type 0} (m : FinMap nat_cmp X) where
  -- the lowest unused number is unused, and each number below it is used
  pub get-lowest_unused : get m (lowest_unused m) ≡ None
  unfolding gap IsFrom
  get-lowest_unused = get-entries m _ ∙ gap_free 0 (entries m) (entries_sorted m) (from_zero (entries m))
    where
      from_zero : (es : List (ℕ × X)) → IsFrom 0 es
      from_zero [] = tt
      from_zero (e ∷ es) = omega arith

  pub below-lowest_unused : (q : ℕ) → q < lowest_unused m → IsSome (get m q)
  unfolding gap
  below-lowest_unused q h = ap is_some (get-entries m q) ∙ gap_below 0 q (entries m) (omega arith) h

  pub lowest_unused-is : (n : ℕ) → get m n ≡ None → ((q : ℕ) → q < n → IsSome (get m q)) → n ≡ lowest_unused m
  lowest_unused-is n none below =
      let low : ℕ = lowest_unused m in
      elim (cases_lt n low) as (λ _. n ≡ low) [
        | inl h ↦ absurd (absent (get m n) none (below-lowest_unused n h))
        | inr h ↦ elim (cases_lt low n) as (λ _. n ≡ low) [
          | inl g ↦ absurd (absent (get m low) get-lowest_unused (below low g))
          | inr g ↦ omega arith
        ]
      ]
    where
      absent : (o : Option X) → o ≡ None → IsSome o → ⊥
      absent o none some = false≢true (sym (ap is_some none) ∙ some)

  pub lowest_unused-le-len : lowest_unused m ≤ len m
  lowest_unused-le-len =
      let known : (q : ℕ) → q < lowest_unused m → list_any (eqb q) (keys m) ≡ true =
      λ q h. sym (λ i. list_any (λ x. unsigned_tied q x i) (keys m)) ∙ sym (contains_key-keys m q) ∙ below-lowest_unused q h in
      omega (arith, le-length_from_below (keys m) (lowest_unused m) known, length-map (entries m) (λ e. e.0), len-entries m)

-- totals
-- what a value counts, if it is there
abbrev pub size_at : {X : Type 0} → (X → ℕ) → Option X → ℕ
size_at f None = 0
size_at f (Some x) = f x

-- the same, entry by entry
counted : {X : Type 0} → (X → ℕ) → List (ℕ × X) → ℕ
counted f [] = 0
counted f (e ∷ es) = f e.1 + counted f es

counted-is : {X : Type 0} (f : X → ℕ) (es : List (ℕ × X)) → counted f es ≡ sum_by f (map (λ e. e.1) es)
unfolding counted
counted-is f [] = refl
counted-is f (e ∷ es) = ap (λ n. f e.1 + n) (counted-is f es) ∙ sym (sum_by-cons f e.1 (map (λ e. e.1) es))

counted_put : {X : Type 0} (f : X → ℕ) (k : ℕ) (v : X) (es : List (ℕ × X)) → T (is_sorted nat_cmp es)
    → counted f (put nat_cmp k v es) + size_at f (find nat_cmp k es) ≡ counted f es + f v
unfolding counted
counted_put f k v [] s = omega arith
counted_put f k v (e ∷ es) s =
    let ordered = both (below_all nat_cmp e.0 es) (is_sorted nat_cmp es) s in
    elim (nat_cmp k e.0) as (λ r. nat_cmp k e.0 ≡ r → MatchOrdering r (k < e.0) (k ≡ e.0) (e.0 < k)
    → counted f (by_order r ((k, v) ∷ e ∷ es) ((e.0, v) ∷ es) (e ∷ put nat_cmp k v es)) + size_at f (find nat_cmp k (e ∷ es)) ≡ f e.1 + counted f es + f v) [
      | Less ↦ λ is less.
          let none : size_at f (find nat_cmp k (e ∷ es)) ≡ 0 = ap (size_at f) (find_apart k e es (omega arith) ∙ find_low k e.0 es (omega arith) ordered.0) in
          let sums : (f v + (f e.1 + counted f es)) + size_at f (find nat_cmp k (e ∷ es)) ≡ (f e.1 + counted f es) + f v = omega arith in sums
      | Equal ↦ λ is same.
          let here : size_at f (find nat_cmp k (e ∷ es)) ≡ f e.1 = ap (size_at f) (find_here k e es same) in
          let sums : (f v + counted f es) + size_at f (find nat_cmp k (e ∷ es)) ≡ (f e.1 + counted f es) + f v = omega arith in sums
      | Greater ↦ λ is more.
          let later : size_at f (find nat_cmp k (e ∷ es)) ≡ size_at f (find nat_cmp k es) = ap (size_at f) (find_apart k e es (omega arith)) in
          let sums : (f e.1 + counted f (put nat_cmp k v es)) + size_at f (find nat_cmp k (e ∷ es)) ≡ (f e.1 + counted f es) + f v = omega (arith, counted_put f k v es ordered.1) in sums
    ] refl (ranks k e.0)

pub sum_by-insert : {X : Type 0} (f : X → ℕ) (m : FinMap nat_cmp X) (k : ℕ) (v : X) → sum_by f (values (insert m k v)) + size_at f (get m k) ≡ sum_by f (values m) + f v
sum_by-insert f m k v =
    ap (λ es. sum_by f (map (λ e. e.1) es) + size_at f (get m k)) (entries-insert nat_cmp_total m k v)
    ∙ omega (arith, ap (size_at f) (get-entries m k), counted_put f k v (entries m) (entries_sorted m), counted-is f (entries m), counted-is f (put nat_cmp k v (entries m)))

pub sum_by-remove : {X : Type 0} (f : X → ℕ) (m : FinMap nat_cmp X) (k : ℕ) → sum_by f (values (remove m k)) + size_at f (get m k) ≡ sum_by f (values m)
sum_by-remove {X} f m k =
    elim (get m k) as (λ o. get m k ≡ o → sum_by f (values (remove m k)) + size_at f o ≡ sum_by f (values m)) [
      | None ↦ λ is. omega (arith, ap (λ n. sum_by f (values n)) (remove_absent m k is))
      | Some v ↦ λ is. let none : get (remove m k) k ≡ None = get-remove_nat m k k ∙ ap (λ b. cond b None (get m k)) (eq-eqb k k refl) in
          omega (arith, ap (λ n. sum_by f (values n)) (insert-remove m k v is), sum_by-insert f (remove m k) k v, ap (size_at f) none)
    ] refl

-- tests
module _ {K X : Type 0} {R : K → K → Ordering} (o : IsTotalOrder R) (p : X → Bool) where
  some_here : (q : K) (v : X) (es : List (K × X)) → find R q es ≡ Some v → p v ≡ true → list_any p (map (λ e. e.1) es) ≡ true
  some_here q v [] is passes = absurd (none-some v is)
  some_here q v (e ∷ es) is passes =
      elim (eq_by_cmp R q e.0) as (λ b. cond b (Some e.1) (find R q es) ≡ Some v → (p e.1 || list_any p (map (λ e. e.1) es)) ≡ true) [
        | true ↦ λ h. ap (λ b. b || list_any p (map (λ e. e.1) es)) (ap p (same_Some _ _ h) ∙ passes)
        | false ↦ λ h. or_true (p e.1) _ (some_here q v es h passes)
      ] is
    where
      or_true : (a b : Bool) → b ≡ true → (a || b) ≡ true
      or_true true b h = refl
      or_true false b h = h

  -- a value at a key
  pub any_at : (m : FinMap R X) (q : K) (v : X) → get m q ≡ Some v → p v ≡ true → list_any p (values m) ≡ true
  any_at m q v is passes = some_here q v (entries m) (sym (get-entries m q) ∙ is) passes

  -- the key of a value
  pub key_of_any : (m : FinMap R X) → list_any p (values m) ≡ true → (q : K) × (v : X) × (get m q ≡ Some v) × (p v ≡ true)
  key_of_any m h = let found = passes_there (entries m) (entries_sorted m) h in (found.0, found.1, get-entries m found.0 ∙ found.2, found.3)
    where
      equal : (r : Ordering) → is_eq r ≡ true → r ≡ Equal
      equal Less e = absurd (false≢true e)
      equal Equal e = refl
      equal Greater e = absurd (false≢true e)

      less : (r : Ordering) → T (is_lt r) → r ≡ Less
      less Less e = refl
      less Equal e = absurd e
      less Greater e = absurd e

      none_above : (q x : K) (es : List (K × X)) → R q x ≡ Equal → T (below_all R x es) → find R q es ≡ None
      none_above q x [] tie below = refl
      none_above q x (e ∷ es) tie below =
          let parts = both (is_lt (R x e.0)) (below_all R x es) below in
          ap (λ r. cond (is_eq r) (Some e.1) (find R q es)) (o.congr q x e.0 tie ∙ less _ parts.0) ∙ none_above q x es tie parts.1

      passes_there : (es : List (K × X)) → T (is_sorted R es) → list_any p (map (λ e. e.1) es) ≡ true → (q : K) × (v : X) × (find R q es ≡ Some v) × (p v ≡ true)
      passes_there [] s h = absurd (false≢true h)
      passes_there (e ∷ es) s h =
          let ordered = both (below_all R e.0 es) (is_sorted R es) s in
          elim (p e.1) as (λ b. p e.1 ≡ b → (b || list_any p (map (λ e. e.1) es)) ≡ true → (q : K) × (v : X) × (find R q (e ∷ es) ≡ Some v) × (p v ≡ true)) [
            | true ↦ λ passes _. (e.0, e.1, ap (λ r. cond (is_eq r) (Some e.1) (find R e.0 es)) (tied_itself o e.0), passes)
            | false ↦ λ fails later.
                let found = passes_there es ordered.1 later in
                elim (eq_by_cmp R found.0 e.0) as (λ b. eq_by_cmp R found.0 e.0 ≡ b → (q : K) × (v : X) × (find R q (e ∷ es) ≡ Some v) × (p v ≡ true)) [
                  | true ↦ λ tie. absurd (none-some found.1 (sym (none_above found.0 e.0 es (equal _ tie) ordered.0) ∙ found.2))
                  | false ↦ λ apart. (found.0, found.1, ap (λ b. cond b (Some e.1) (find R found.0 es)) apart ∙ found.2, found.3)
                ] refl
          ] refl h
