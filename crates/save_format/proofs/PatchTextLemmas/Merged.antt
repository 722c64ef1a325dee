-- Two lists by rising numbers, gone along together: what stands at each number in either is combined.
use Rattle.std.proofs.Common.{◌≡◌, ℕ, zero, suc, ◌+◌, ◌-◌, ◌<◌, ◌≤◌, Option, None, Some, List, [], ◌∷◌, ◌++◌, map, min, refl, sym, ap, subst, ◌∙◌, arith, append_assoc}
use Rattle.std.proofs.lemmas.List.{append-nil}
use Rattle.std.proofs.lemmas.Option.{none-some, same_Some}
use Rattle.save_format.specs.PatchText.Inside.Walking.{IsFirst, Rises, SameFrom, lowest_of}
use Rattle.save_format.specs.PatchText.Numbered.{items_from, item_numbered, with_item}
use Rattle.save_format.proofs.PatchTextLemmas.Rising.{none_below}

-- ---- items that a function gives, a stretch at a time

same_from : {C : Type 0} (item : ℕ → Option C) (n m k l : ℕ) → n ≡ m → k ≡ l → items_from item n k ≡ items_from item m l
same_from item n m k l e f = λ i. items_from item (e i) (f i)

pub skipped : {C : Type 0} (item : ℕ → Option C) (gap n count total : ℕ) → total ≡ gap + count → ((k : ℕ) → n ≤ k → k < n + gap → item k ≡ None) → items_from item n total ≡ items_from item (n + gap) count
unfolding items_from
skipped item zero n count total e none = same_from item n (n + 0) total count (omega arith) (omega (arith, e))
skipped item (suc gap) n count zero e none = absurd (omega (arith, e))
skipped item (suc gap) n count (suc total) e none =
    ap (λ o. with_item o (items_from item (n + 1) total)) (none n (omega arith) (omega arith))
    ∙ skipped item gap (n + 1) count total (omega (arith, e)) (λ k le lt. none k (omega (arith, le)) (omega (arith, lt)))
    ∙ same_from item (n + 1 + gap) (n + suc gap) count count (omega arith) refl

one_from : {C : Type 0} (item : ℕ → Option C) (n count after : ℕ) → count ≡ suc after → items_from item n count ≡ with_item (item n) (items_from item (n + 1) after)
unfolding items_from
one_from item n count after e = same_from item n n count (suc after) refl e

one_more : {C : Type 0} (prefix rest : List C) (o : Option C) → prefix ++ with_item o rest ≡ (prefix ++ with_item o []) ++ rest
one_more prefix rest None = ap (λ v. v ++ rest) (sym (append-nil prefix))
one_more prefix rest (Some x) = sym (append_assoc prefix (x ∷ []) rest)

nothing_from : {C : Type 0} (item : ℕ → Option C) (n : ℕ) → items_from item n 0 ≡ []
unfolding items_from
nothing_from item n = refl

-- ---- the fronts

pub first_seen : {T A : Type 0} (of : A → ℕ) (seen : T → A) (xs : List T) (o : Option ℕ) → IsFirst (λ x. of (seen x)) xs o → IsFirst of (map seen xs) o
first_seen of seen [] o f = f
first_seen of seen (x ∷ xs) o f = f

nothing_low : (a b : Option ℕ) → None ≡ lowest_of a b → (a ≡ None) × (b ≡ None)
nothing_low None None e = (refl, refl)
nothing_low None (Some b) e = absurd (none-some b e)
nothing_low (Some a) None e = absurd (none-some a e)
nothing_low (Some a) (Some b) e = absurd (none-some (min a b) e)

no_first : {A : Type 0} (of : A → ℕ) (xs : List A) (o : Option ℕ) → IsFirst of xs o → o ≡ None → xs ≡ []
no_first of [] o f e = refl
no_first of (x ∷ xs) o f e = absurd (none-some (of x) (sym e ∙ f))

-- a number that no first one is below
IsUnder : ℕ → Option ℕ → Type 0
IsUnder n o = (m : ℕ) → o ≡ Some m → n ≤ m

lowest_under : (a b : Option ℕ) (n : ℕ) → Some n ≡ lowest_of a b → IsUnder n a × IsUnder n b
unfolding IsUnder
lowest_under None None n e = absurd (none-some n (sym e))
lowest_under None (Some b) n e = (λ m f. absurd (none-some m f), λ m f. omega (arith, same_Some n b e, same_Some b m f))
lowest_under (Some a) None n e = (λ m f. omega (arith, same_Some n a e, same_Some a m f), λ m f. absurd (none-some m f))
lowest_under (Some a) (Some b) n e =
    let is : n ≡ min a b = same_Some n (min a b) e in
    (λ m f. omega (arith, is, same_Some a m f), λ m f. omega (arith, is, same_Some b m f))

rises_first : {A : Type 0} (of : A → ℕ) (xs : List A) (o : Option ℕ) (least n : ℕ) → IsFirst of xs o → IsUnder n o → Rises of least xs → Rises of n xs
unfolding IsUnder
rises_first of [] o least n f under rises = tt
rises_first of (x ∷ xs) o least n f under rises = (under (of x) f, rises.1)

lowest_of_two : (a b : Option ℕ) (n least : ℕ) → Some n ≡ lowest_of a b → ((m : ℕ) → a ≡ Some m → least ≤ m) → ((m : ℕ) → b ≡ Some m → least ≤ m) → least ≤ n
lowest_of_two None None n least e under_a under_b = absurd (none-some n (sym e))
lowest_of_two None (Some b) n least e under_a under_b = omega (arith, same_Some n b e, under_b b refl)
lowest_of_two (Some a) None n least e under_a under_b = omega (arith, same_Some n a e, under_a a refl)
lowest_of_two (Some a) (Some b) n least e under_a under_b = let is : n ≡ min a b = same_Some n (min a b) e in omega (arith, is, under_a a refl, under_b b refl)

first_low : {A : Type 0} (of : A → ℕ) (xs : List A) (o : Option ℕ) (least : ℕ) → IsFirst of xs o → Rises of least xs → (m : ℕ) → o ≡ Some m → least ≤ m
first_low of [] o least f rises m e = absurd (none-some m (sym f ∙ e))
first_low of (x ∷ xs) o least f rises m e = omega (arith, rises.0, same_Some (of x) m (sym f ∙ e))

-- ---- the walk

module _ {A B C : Type 0} (of_a : A → ℕ) (of_b : B → ℕ) (combine : ℕ → Option A → Option B → Option C) (none : (k : ℕ) → combine k None None ≡ None) (high : ℕ) where
  abbrev pub item_in : List A → List B → ℕ → Option C
  item_in base other k = combine k (item_numbered of_a base k) (item_numbered of_b other k)

  -- what was combined so far, and what is left of both lists, from a number on
  pub record Walks (base : List A) (other : List B) (total : List C) (prefix : List C) (xs : List A) (ys : List B) (least : ℕ) : Type 0 where
    pub low : least ≤ high
    pub rises_a : Rises of_a least xs
    pub same_a : SameFrom of_a least base xs
    pub rises_b : Rises of_b least ys
    pub same_b : SameFrom of_b least other ys
    pub so_far : prefix ++ items_from (item_in base other) least (high - least) ≡ total

  pub begins : (base : List A) (other : List B) → Rises of_a 0 base → Rises of_b 0 other → Walks base other (items_from (item_in base other) 0 high) [] base other 0
  begins base other ra rb = record {
    low = omega arith;
    rises_a = ra;
    same_a = λ k le. refl;
    rises_b = rb;
    same_b = λ k le. refl;
    so_far = same_from (item_in base other) 0 0 (high - 0) high refl (omega arith);
  }

  -- what the lowest first number says
  pub record IsNext (xs : List A) (ys : List B) (least n : ℕ) : Type 0 where
    pub from : least ≤ n
    pub rises_a : Rises of_a n xs
    pub rises_b : Rises of_b n ys

  pub next_is : (xs : List A) (ys : List B) (a b : Option ℕ) (least n : ℕ) → Rises of_a least xs → Rises of_b least ys → IsFirst of_a xs a → IsFirst of_b ys b → Some n ≡ lowest_of a b → IsNext xs ys least n
  next_is xs ys a b least n ra rb fa fb e =
      let under = lowest_under a b n e in
      record {
        from = lowest_of_two a b n least e (first_low of_a xs a least fa ra) (first_low of_b ys b least fb rb);
        rises_a = rises_first of_a xs a least n fa under.0 ra;
        rises_b = rises_first of_b ys b least n fb under.1 rb;
      }

  empty_at : (base : List A) (other : List B) (xs : List A) (ys : List B) (least n k : ℕ) → SameFrom of_a least base xs → SameFrom of_b least other ys → Rises of_a n xs → Rises of_b n ys → least ≤ k → k < n → item_in base other k ≡ None
  empty_at base other xs ys least n k sa sb ra rb le lt =
      ap (λ o. combine k o (item_numbered of_b other k)) (sym (sa k le) ∙ none_below of_a n k xs ra lt)
      ∙ ap (combine k None) (sym (sb k le) ∙ none_below of_b n k ys rb lt) ∙ none k

  pub steps_on : (base : List A) (other : List B) (total prefix after : List C) (xs later_xs : List A) (ys later_ys : List B) (least n : ℕ) → n < high → IsNext xs ys least n → Walks base other total prefix xs ys least
      → Rises of_a (n + 1) later_xs → SameFrom of_a (n + 1) xs later_xs → Rises of_b (n + 1) later_ys → SameFrom of_b (n + 1) ys later_ys
      → after ≡ prefix ++ with_item (combine n (item_numbered of_a xs n) (item_numbered of_b ys n)) [] → Walks base other total after later_xs later_ys (n + 1)
  steps_on base other total prefix after xs later_xs ys later_ys least n lt next w ra sa rb sb e =
      let item = item_in base other in
      let gap : items_from item least (high - least) ≡ items_from item n (high - n) =
      skipped item (n - least) least (high - n) (high - least) (omega (arith, next.from, lt)) (λ k le below. empty_at base other xs ys least n k w.same_a w.same_b next.rises_a next.rises_b le (omega (arith, below, next.from)))
      ∙ same_from item (least + (n - least)) n (high - n) (high - n) (omega (arith, next.from)) refl in
      let rest : List C = items_from item (n + 1) (high - (n + 1)) in
      let one : items_from item n (high - n) ≡ with_item (item n) rest = one_from item n (high - n) (high - (n + 1)) (omega (arith, lt)) in
      let here : item n ≡ combine n (item_numbered of_a xs n) (item_numbered of_b ys n) =
      ap (λ o. combine n o (item_numbered of_b other n)) (sym (w.same_a n next.from)) ∙ ap (combine n (item_numbered of_a xs n)) (sym (w.same_b n next.from)) in
      record {
        low = omega (arith, lt);
        rises_a = ra;
        same_a = λ k le. sa k le ∙ w.same_a k (omega (arith, le, next.from));
        rises_b = rb;
        same_b = λ k le. sb k le ∙ w.same_b k (omega (arith, le, next.from));
        so_far = ap (λ v. v ++ rest) e ∙ sym (one_more prefix rest (combine n (item_numbered of_a xs n) (item_numbered of_b ys n)))
            ∙ ap (λ o. prefix ++ with_item o rest) (sym here) ∙ ap (λ v. prefix ++ v) (sym one ∙ sym gap) ∙ w.so_far;
      }

  pub ends_there : (base : List A) (other : List B) (total prefix : List C) (xs : List A) (ys : List B) (least : ℕ) (a b : Option ℕ) → Walks base other total prefix xs ys least → IsFirst of_a xs a → IsFirst of_b ys b → None ≡ lowest_of a b → prefix ≡ total
  ends_there base other total prefix xs ys least a b w fa fb e =
      let nothing = nothing_low a b e in
      let no_xs : xs ≡ [] = no_first of_a xs a fa nothing.0 in
      let no_ys : ys ≡ [] = no_first of_b ys b fb nothing.1 in
      let item = item_in base other in
      let none_left : items_from item least (high - least) ≡ [] =
      skipped item (high - least) least 0 (high - least) (omega arith) (λ k le lt. empty_at base other xs ys least high k w.same_a w.same_b (subst (λ v. Rises of_a high v) (sym no_xs) tt) (subst (λ v. Rises of_b high v) (sym no_ys) tt) le (omega (arith, lt, w.low)))
      ∙ nothing_from item (least + (high - least)) in
      sym (append-nil prefix) ∙ ap (λ v. prefix ++ v) (sym none_left) ∙ w.so_far
