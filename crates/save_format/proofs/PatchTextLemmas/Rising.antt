-- Lists of items by rising numbers: what stands at each number says the list.
use Rattle.std.proofs.Common.{◌≡◌, ◌⊎◌, ℕ, zero, suc, ◌+◌, ◌<◌, ◌≤◌, true, false, cond, eqb, Option, Some, None, List, [], ◌∷◌, refl, sym, ap, subst, ◌∙◌, arith, ne_eqb, eq-eqb, eqb-true, inl, inr}
use Rattle.std.proofs.lemmas.Bool.{cases_lt}
use Rattle.std.proofs.lemmas.Option.{none-some, same_Some}
use Rattle.save_format.specs.ByteFields.Spelling.{InTurn}
use Rattle.save_format.specs.PatchText.Inside.Walking.{Rises}
use Rattle.save_format.specs.PatchText.Numbered.{items_from, item_numbered, with_item}

pub apart : (a b : ℕ) → a < b → eqb a b ≡ false
apart a b lt = ne_eqb a b (λ e. omega (arith, lt, e))

pub apart_up : (a b : ℕ) → b < a → eqb a b ≡ false
apart_up a b lt = ne_eqb a b (λ e. omega (arith, lt, e))

-- which of two numbers is the lower one
pub sides : (a b : ℕ) → (a < b) ⊎ ((b < a) ⊎ (a ≡ b))
sides a b =
    elim (cases_lt a b) [
      | inl lt ↦ inl lt
      | inr le ↦ elim (cases_lt b a) [
        | inl lt ↦ inr (inl lt)
        | inr ge ↦ inr (inr (omega (arith, le, ge)))
      ]
    ]

module _ {A : Type 0} (of : A → ℕ) where
  pub rises_lower : (least low : ℕ) (xs : List A) → low ≤ least → Rises of least xs → Rises of low xs
  rises_lower least low [] le rises = tt
  rises_lower least low (x ∷ xs) le rises = (omega (arith, le, rises.0), rises.1)

  pub none_below : (least n : ℕ) (xs : List A) → Rises of least xs → n < least → item_numbered of xs n ≡ None
  none_below least n [] rises lt = refl
  none_below least n (x ∷ xs) rises lt =
      let above : n < of x = omega (arith, lt, rises.0) in
      rw (apart_up (of x) n above) (none_below (of x + 1) n xs rises.1 (omega (arith, above)))

  pub at_head : (x : A) (xs : List A) → item_numbered of (x ∷ xs) (of x) ≡ Some x
  at_head x xs = rw (eq-eqb (of x) (of x) refl) refl

  pub after_head : (x : A) (xs : List A) (n : ℕ) → of x < n → item_numbered of (x ∷ xs) n ≡ item_numbered of xs n
  after_head x xs n lt = rw (apart (of x) n lt) refl

  -- what is found has its number, and is one of the items
  pub has_number : (xs : List A) (n : ℕ) (x : A) → item_numbered of xs n ≡ Some x → of x ≡ n
  has_number [] n x e = absurd (none-some x e)
  has_number (y ∷ xs) n x e =
      elim (eqb (of y) n) as (λ b. eqb (of y) n ≡ b → cond b (Some y) (item_numbered of xs n) ≡ Some x → of x ≡ n) [
        | true ↦ λ t here. ap of (sym (same_Some y x here)) ∙ eqb-true (of y) n t
        | false ↦ λ f later. has_number xs n x later
      ] refl e

  -- lists that have the same items at all numbers are the same
  pub same_items : (least : ℕ) (xs ys : List A) → Rises of least xs → Rises of least ys → ((n : ℕ) → item_numbered of xs n ≡ item_numbered of ys n) → xs ≡ ys
  same_items least [] [] rx ry same = refl
  same_items least [] (y ∷ ys) rx ry same = absurd (none-some y (same (of y) ∙ at_head y ys))
  same_items least (x ∷ xs) [] rx ry same = absurd (none-some x (sym (same (of x)) ∙ at_head x xs))
  same_items least (x ∷ xs) (y ∷ ys) rx ry same =
      let rest : x ≡ y → ((n : ℕ) → of x < n → item_numbered of xs n ≡ item_numbered of ys n) → (n : ℕ) → item_numbered of xs n ≡ item_numbered of ys n = λ is later n.
      elim (cases_lt (of x) n) [
        | inl lt ↦ later n lt
        | inr le ↦ none_below (of x + 1) n xs rx.1 (omega (arith, le)) ∙ sym (none_below (of y + 1) n ys ry.1 (omega (arith, le, ap of is)))
      ] in
      let equal : x ≡ y → x ∷ xs ≡ y ∷ ys = λ is.
      let tails : xs ≡ ys = same_items (of x + 1) xs ys rx.1 (subst (λ (v : ℕ). Rises of v ys) (ap (λ (v : A). of v + 1) (sym is)) ry.1)
      (rest is (λ n lt. sym (after_head x xs n lt) ∙ same n ∙ after_head y ys n (omega (arith, lt, ap of is)))) in
      λ i. is i ∷ tails i in
      elim (sides (of x) (of y)) [
        | inl lt ↦ absurd (none-some x (sym (none_below (of y) (of x) (y ∷ ys) (omega arith, ry.1) lt) ∙ sym (same (of x)) ∙ at_head x xs))
        | inr (inl lt) ↦ absurd (none-some y (sym (none_below (of x) (of y) (x ∷ xs) (omega arith, rx.1) lt) ∙ same (of y) ∙ at_head y ys))
        | inr (inr is) ↦ equal (same_Some x y (sym (at_head x xs) ∙ same (of x) ∙ ap (item_numbered of (y ∷ ys)) is ∙ at_head y ys))
      ]

  -- ---- the items that a function gives

  -- a function that gives an item its number
  abbrev pub IsPlaced : (ℕ → Option A) → Type 0
  IsPlaced item = (n : ℕ) (x : A) → item n ≡ Some x → of x ≡ n

  pub items_fit : {F : ℕ → A → Type 0} (next : A → ℕ) (item : ℕ → Option A) → ((n : ℕ) (x : A) → item n ≡ Some x → next x ≡ n + 1)
      → (count n least high : ℕ) → least ≤ n → n + count ≤ high
      → ((low n : ℕ) (x : A) → low ≤ n → n < high → item n ≡ Some x → F low x) → InTurn F next least (items_from item n count)
  unfolding items_from
  items_fit {F} next item is zero n least high le up fits = tt
  items_fit {F} next item is (suc count) n least high le up fits =
      let later : (low : ℕ) → low ≤ n + 1 → InTurn F next low (items_from item (n + 1) count) = λ low l. items_fit next item is count (n + 1) low high l (omega (arith, up)) fits in
      by (item n) refl later
    where
      by : (o : Option A) → item n ≡ o → ((low : ℕ) → low ≤ n + 1 → InTurn F next low (items_from item (n + 1) count)) → InTurn F next least (with_item o (items_from item (n + 1) count))
      by None e later = later least (omega (arith, le))
      by (Some x) e later = (fits least n x le (omega (arith, up)) e, later (next x) (omega (arith, is n x e)))

  pub items_rise : (item : ℕ → Option A) → IsPlaced item → (count n least : ℕ) → least ≤ n → Rises of least (items_from item n count)
  items_rise item placed count n least le =
      items_fit (λ x. of x + 1) item (λ n x e. ap (λ (v : ℕ). v + 1) (placed n x e)) count n least (n + count) le (omega arith)
      (λ low n x l lt e. omega (arith, l, placed n x e))

  pub none_above : (item : ℕ → Option A) → IsPlaced item → (count n m : ℕ) → n + count ≤ m → item_numbered of (items_from item n count) m ≡ None
  unfolding items_from
  none_above item placed zero n m le = refl
  none_above item placed (suc count) n m le = by (item n) refl (none_above item placed count (n + 1) m (omega (arith, le)))
    where
      by : (o : Option A) → item n ≡ o → item_numbered of (items_from item (n + 1) count) m ≡ None → item_numbered of (with_item o (items_from item (n + 1) count)) m ≡ None
      by None e later = later
      by (Some x) e later = after_head x _ m (omega (arith, le, placed n x e)) ∙ later

  -- at a number among them stands what the function gives there
  pub item_at : (item : ℕ → Option A) → IsPlaced item → (count n m : ℕ) → n ≤ m → m < n + count → item_numbered of (items_from item n count) m ≡ item m
  unfolding items_from
  item_at item placed zero n m le lt = absurd (omega (arith, le, lt))
  item_at item placed (suc count) n m le lt =
      elim (sides n m) [
        | inl below ↦ by (item n) refl (item_at item placed count (n + 1) m (omega (arith, below)) (omega (arith, lt)))
        | inr (inl above) ↦ absurd (omega (arith, le, above))
        | inr (inr is) ↦ here is (item n) refl
      ]
    where
      here : n ≡ m → (o : Option A) → item n ≡ o → item_numbered of (with_item o (items_from item (n + 1) count)) m ≡ item m
      here is None e = none_below (n + 1) m (items_from item (n + 1) count) (items_rise item placed count (n + 1) (n + 1) (omega arith)) (omega (arith, is)) ∙ sym e ∙ ap item is
      here is (Some x) e = ap (item_numbered of (x ∷ items_from item (n + 1) count)) (sym is ∙ sym (placed n x e)) ∙ at_head x _ ∙ sym e ∙ ap item is

      by : (o : Option A) → item n ≡ o → item_numbered of (items_from item (n + 1) count) m ≡ item m → item_numbered of (with_item o (items_from item (n + 1) count)) m ≡ item m
      by None e later = later
      by (Some x) e later =
          elim (sides n m) [
            | inl below ↦ after_head x _ m (omega (arith, below, placed n x e)) ∙ later
            | inr (inl above) ↦ absurd (omega (arith, le, above))
            | inr (inr is) ↦ here is (Some x) e
          ]

  -- a list all of whose numbers are below a count is what stands at each number
  pub items_again : (item : ℕ → Option A) → IsPlaced item → (xs : List A) (high : ℕ) → Rises of 0 xs → ((n : ℕ) (x : A) → item_numbered of xs n ≡ Some x → n < high)
      → ((n : ℕ) → n < high → item n ≡ item_numbered of xs n) → items_from item 0 high ≡ xs
  items_again item placed xs high rises low is =
      same_items 0 (items_from item 0 high) xs (items_rise item placed high 0 0 (omega arith)) rises
      (λ n. elim (cases_lt n high) [
        | inl lt ↦ item_at item placed high 0 n (omega arith) (omega (arith, lt)) ∙ is n lt
        | inr le ↦ none_above item placed high 0 n (omega (arith, le)) ∙ sym (nothing (item_numbered of xs n) refl le)
      ])
    where
      nothing : {n : ℕ} (o : Option A) → item_numbered of xs n ≡ o → high ≤ n → o ≡ None
      nothing None e le = refl
      nothing {n} (Some x) e le = absurd (omega (arith, le, low n x e))
