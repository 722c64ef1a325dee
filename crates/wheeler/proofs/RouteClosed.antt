-- A route goes on to the program of each unchecked stage on it.
use Rattle.std.proofs.Common.{◌≡◌, ℕ, zero, suc, ◌-◌, ◌<◌, ◌≤◌, ◌||◌, Bool, true, false, cond, Option, None, Some, is_some, List, [], ◌∷◌, ◌++◌, length, take, drop, get_or, refl, sym, ap, ◌∙◌, subst, arith, inl, inr}
use Rattle.std.specs.Prelude.{IsSome, bytes_eq, slice_get, option_map}
use Rattle.std.specs.Option.{option_or}
use Rattle.std.proofs.lemmas.Bool.{cases_Bool, cases_lt}
use Rattle.std.proofs.lemmas.List.{length-take}
use Rattle.std.proofs.lemmas.List.Quantifiers.{position-Some}
use Rattle.std.proofs.lemmas.Slice.Eq.{bytes_eq-Decides}
use Rattle.recipe.specs.declared.contents.RecipeContents.{RecipeContents}
use Rattle.recipe.specs.declared.parts.Content.{Content}
use Rattle.recipe.specs.declared.parts.Content.TheVariants as content
use Rattle.recipe.specs.declared.parts.Input.{Input}
use Rattle.recipe.specs.declared.parts.Stage.{Stage}
use Rattle.recipe.specs.Kept.{IsRecipe}
use Rattle.recipe.specs.Lookups.{content_named, input_at, stage_at}
use Rattle.recipe.proofs.MoreStages.{content_more}
use Rattle.wheeler.proofs.Naming.{position-low, stage-placed}
use Rattle.wheeler.specs.Routes.{unless_checked, made_at, route_from, is_on}

-- ---- elements by their index

pub there : {A : Type 0} (xs : List A) (k : ℕ) (d : A) → k < length xs → slice_get xs k ≡ Some (get_or xs k d)
there [] k d less = absurd (omega (arith, less))
there (x ∷ xs) zero d less = refl
there (x ∷ xs) (suc k) d less = there xs k d (omega (arith, less))

pub within : {A : Type 0} (xs : List A) (k : ℕ) (x : A) → slice_get xs k ≡ Some x → k < length xs
within [] k x is = absurd cc
within (y ∷ xs) zero x is = omega arith
within (y ∷ xs) (suc k) x is = omega (arith, within xs k x is)

pub element : {A : Type 0} (xs : List A) (k : ℕ) (d x : A) → slice_get xs k ≡ Some x → get_or xs k d ≡ x
element [] k d x is = absurd cc
element (y ∷ xs) zero d x is = cc
element (y ∷ xs) (suc k) d x is = element xs k d x is

pub split-at : {A : Type 0} (xs : List A) (k : ℕ) (x : A) → slice_get xs k ≡ Some x → xs ≡ take k xs ++ x ∷ drop (suc k) xs
split-at [] k x is = absurd cc
split-at (y ∷ xs) zero x is = let same : y ≡ x = cc in ap (λ z. z ∷ xs) same
split-at (y ∷ xs) (suc k) x is = ap (λ l. y ∷ l) (split-at xs k x is)

missing : {A : Type 0} (xs : List A) (k : ℕ) → slice_get xs k ≡ None → length xs ≤ k
missing [] k is = omega arith
missing (x ∷ xs) zero is = absurd cc
missing (x ∷ xs) (suc k) is = omega (arith, missing xs k is)

pub same_element : {A : Type 0} (x y : A) → Some x ≡ Some y → x ≡ y
same_element x y e = cc

-- ---- a route, a stage at a time

pub route-first : (stages : List Stage) (name : List ℕ) → route_from stages 0 name ≡ name ∷ []
unfolding route_from
route-first stages name = refl

pub route-made : (stages : List Stage) (n : ℕ) (x : Stage) (name : List ℕ) → 0 < n → slice_get stages (n - 1) ≡ Some x → bytes_eq x.name name ≡ true
    → route_from stages n name ≡ name ∷ unless_checked x.check (route_from stages (n - 1) x.program)
unfolding route_from
route-made stages zero x name some at named = absurd (omega (arith, some))
route-made stages (suc n) x name some at named =
    let less : suc n - 1 ≡ n = omega arith in
    let here : slice_get stages n ≡ Some x = ap (slice_get stages) (sym less) ∙ at in
    ap (λ o. made_at name o (route_from stages n name) (λ program. route_from stages n program)) here
    ∙ ap (λ b. cond b (name ∷ unless_checked x.check (route_from stages n x.program)) (route_from stages n name)) named
    ∙ ap (λ m. name ∷ unless_checked x.check (route_from stages m x.program)) (sym less)

pub route-other : (stages : List Stage) (n : ℕ) (x : Stage) (name : List ℕ) → 0 < n → slice_get stages (n - 1) ≡ Some x → bytes_eq x.name name ≡ false
    → route_from stages n name ≡ route_from stages (n - 1) name
unfolding route_from
route-other stages zero x name some at named = absurd (omega (arith, some))
route-other stages (suc n) x name some at named =
    let less : suc n - 1 ≡ n = omega arith in
    let here : slice_get stages n ≡ Some x = ap (slice_get stages) (sym less) ∙ at in
    ap (λ o. made_at name o (route_from stages n name) (λ program. route_from stages n program)) here
    ∙ ap (λ b. cond b (name ∷ unless_checked x.check (route_from stages n x.program)) (route_from stages n name)) named
    ∙ ap (λ m. route_from stages m name) (sym less)

-- an element that the code reads by its index is there
pub read-at : {A : Type 0} (xs : List A) (k : ℕ) (d x : A) → k < length xs → x ≡ get_or xs k d → slice_get xs k ≡ Some x
read-at xs k d x less is = there xs k d less ∙ ap Some (sym is)

-- ---- which stages make what a name stands for

-- an input, or made by one of the first stages, so many
abbrev pub IsBelow : ℕ → Option Content → Type 0
IsBelow n None = ⊥
IsBelow n (Some (content.Input k)) = Unit {0}
IsBelow n (Some (content.Stage k)) = k < n

-- or by more of them
pub more-below : (m n : ℕ) (c : Option Content) → m ≤ n → IsBelow m c → IsBelow n c
more-below m n None few is = is
more-below m n (Some (content.Input k)) few is = tt
more-below m n (Some (content.Stage k)) few is = omega (arith, few, is)

found-below : (n : ℕ) (inputs : List Input) (stages : List Stage) (name : List ℕ) → length stages ≤ n → IsSome (content_named inputs stages name)
    → IsBelow n (content_named inputs stages name)
unfolding content_named
found-below n inputs stages name few is = by_input (input_at inputs name) is
  where
    by_stage : (o : Option ℕ) → stage_at stages name ≡ o → IsSome (option_map content.Stage o) → IsBelow n (option_map content.Stage o)
    by_stage None at is = absurd cc
    by_stage (Some k) at is = omega (arith, few, position-low (λ (s : Stage). bytes_eq s.name name) stages k at)

    by_input : (o : Option ℕ) → IsSome (option_or (option_map content.Input o) (option_map content.Stage (stage_at stages name)))
        → IsBelow n (option_or (option_map content.Input o) (option_map content.Stage (stage_at stages name)))
    by_input (Some k) is = tt
    by_input None is = by_stage (stage_at stages name) refl is

-- what stands for a stage has the stage's name
stage-has : (inputs : List Input) (stages : List Stage) (name : List ℕ) (k : ℕ) (x : Stage) → content_named inputs stages name ≡ Some (content.Stage k)
    → slice_get stages k ≡ Some x → bytes_eq x.name name ≡ true
unfolding content_named
stage-has inputs stages name k x is at = by_input (input_at inputs name) is
  where
    by_stage : (o : Option ℕ) → stage_at stages name ≡ o → option_map content.Stage o ≡ Some (content.Stage k) → bytes_eq x.name name ≡ true
    by_stage None at_index is = absurd cc
    by_stage (Some j) at_index is =
        let same : j ≡ k = cc in
        let passes = (position-Some (λ (s : Stage). bytes_eq s.name name) stages j x at_index).1 in
        let here : get_or stages j x ≡ x = ap (λ i. get_or stages i x) same ∙ element stages k x x at in
        ap (λ (s : Stage). bytes_eq s.name name) (sym here) ∙ passes

    by_input : (o : Option ℕ) → option_or (option_map content.Input o) (option_map content.Stage (stage_at stages name)) ≡ Some (content.Stage k)
        → bytes_eq x.name name ≡ true
    by_input (Some i) is = absurd cc
    by_input None is = by_stage (stage_at stages name) refl is

module _ (recipe : RecipeContents) (ok : IsRecipe recipe) where
  abbrev pub meant : List ℕ → Option Content
  meant name = content_named recipe.inputs recipe.stages name

  -- a stage's name stands for what the stage makes
  pub own-stage : (j : ℕ) (s : Stage) → slice_get recipe.stages j ≡ Some s → meant s.name ≡ Some (content.Stage j)
  own-stage j s at =
      let less = within recipe.stages j s at in
      let placed = stage-placed recipe (take j recipe.stages) s (drop (suc j) recipe.stages) ok (split-at recipe.stages j s at) in
      placed.content ∙ ap (λ n. Some (content.Stage n)) (omega (arith, less, length-take j recipe.stages))

  -- a stage's program is an input or is made before it
  pub program-below : (n : ℕ) (x : Stage) → slice_get recipe.stages n ≡ Some x → IsBelow n (meant x.program)
  program-below n x at =
      let made = (ok.stages n x at).program in
      let few : length (take n recipe.stages) ≤ n = omega (arith, length-take n recipe.stages) in
      subst (IsBelow n) (sym (content_more recipe.inputs recipe.stages n x.program made)) (found-below n recipe.inputs (take n recipe.stages) x.program few made)

  -- what is not made by the stage itself is made before it
  pub lower : (n : ℕ) (name : List ℕ) (c : Option Content) → meant name ≡ c → IsBelow (suc n) c
      → ((x : Stage) → slice_get recipe.stages n ≡ Some x → bytes_eq x.name name ≡ true → ⊥) → IsBelow n c
  lower n name None was is other = is
  lower n name (Some (content.Input k)) was is other = tt
  lower n name (Some (content.Stage k)) was is other = elim (cases_lt k n) [
    | inl less ↦ less
    | inr most ↦
        let same : k ≡ n = omega (arith, most, is) in
        let here : meant name ≡ Some (content.Stage n) = was ∙ ap (λ i. Some (content.Stage i)) same in
        absurd (by_get (slice_get recipe.stages n) refl here)
  ]
    where
      none_there : slice_get recipe.stages n ≡ None → meant name ≡ Some (content.Stage n) → ⊥
      none_there at here =
          let few : length recipe.stages ≤ n = missing recipe.stages n at in
          let less : n < length recipe.stages =
          subst (IsBelow (length recipe.stages)) here (found-below (length recipe.stages) recipe.inputs recipe.stages name (omega arith) (ap is_some here)) in
          omega (arith, few, less)

      by_get : (o : Option Stage) → slice_get recipe.stages n ≡ o → meant name ≡ Some (content.Stage n) → ⊥
      by_get (Some x) at here = other x at (stage-has recipe.inputs recipe.stages name n x here at)
      by_get None at here = none_there at here

  abbrev from : ℕ → List ℕ → List (List ℕ)
  from n name = route_from recipe.stages n name

  either : (a b : Bool) → (a || b) ≡ true → (a ≡ false → b ≡ true)
  either true b is isnt = absurd cc
  either false b is isnt = is

  or-right : (a b : Bool) → b ≡ true → (a || b) ≡ true
  or-right true b is = refl
  or-right false b is = is

  own : (name : List ℕ) → bytes_eq name name ≡ true
  own name = (bytes_eq-Decides name name).1 refl

  -- a program is on its own route
  pub first-on : (n : ℕ) (name : List ℕ) → is_on (from n name) name ≡ true
  unfolding route_from
  first-on zero name = ap (λ b. b || false) (own name)
  first-on (suc n) name = by_get (first-on n name) (slice_get recipe.stages n)
    where
      by_test : is_on (from n name) name ≡ true → (x : Stage) (t : Bool) → is_on (cond t (name ∷ unless_checked x.check (from n x.program)) (from n name)) name ≡ true
      by_test before x true = ap (λ b. b || is_on (unless_checked x.check (from n x.program)) name) (own name)
      by_test before x false = before

      by_get : is_on (from n name) name ≡ true → (o : Option Stage) → is_on (made_at name o (from n name) (λ program. from n program)) name ≡ true
      by_get before None = before
      by_get before (Some x) = by_test before x (bytes_eq x.name name)

  pub closed-from : (n : ℕ) (name : List ℕ) → IsBelow n (meant name) → (j : ℕ) (s : Stage) → slice_get recipe.stages j ≡ Some s → s.check ≡ None
      → is_on (from n name) s.name ≡ true → is_on (from n name) s.program ≡ true
  unfolding route_from
  closed-from zero name below j s at unchecked on = elim (cases_Bool (bytes_eq name s.name)) [
    | inl equal ↦
        let same : name ≡ s.name = (bytes_eq-Decides name s.name).0 equal in
        let none : j < 0 = subst (IsBelow 0) (ap meant same ∙ own-stage j s at) below in
        absurd (omega (arith, none))
    | inr other ↦ absurd (let later = either (bytes_eq name s.name) false on other in cc)
  ]
  closed-from (suc n) name below j s at unchecked on =
      by_get (λ program under here. closed-from n program under j s at unchecked here) (slice_get recipe.stages n) refl on
    where
      Closes : List (List ℕ) → Type 0
      Closes names = is_on names s.name ≡ true → is_on names s.program ≡ true

      Before : Type 0
      Before = (program : List ℕ) → IsBelow n (meant program) → Closes (from n program)

      -- a stage that makes what has the stage's own name is the stage
      the_stage : (x : Stage) → slice_get recipe.stages n ≡ Some x → bytes_eq x.name name ≡ true → bytes_eq name s.name ≡ true → x ≡ s
      the_stage x found named equal =
          let same : name ≡ s.name = (bytes_eq-Decides name s.name).0 equal in
          let mine : x.name ≡ name = (bytes_eq-Decides x.name name).0 named in
          let both : Some (content.Stage n) ≡ Some (content.Stage j) = sym (own-stage n x found) ∙ ap meant (mine ∙ same) ∙ own-stage j s at in
          let index : n ≡ j = cc in
          same_element x s (sym found ∙ ap (slice_get recipe.stages) index ∙ at)

      by_check : Before → (x : Stage) (o : Option (List ℕ)) → slice_get recipe.stages n ≡ Some x → bytes_eq x.name name ≡ true → x.check ≡ o
          → Closes (name ∷ unless_checked o (from n x.program))
      by_check before x (Some check) found named was here = elim (cases_Bool (bytes_eq name s.name)) [
        | inl equal ↦
            let one = the_stage x found named equal in
            let none : Some check ≡ None = sym was ∙ ap (λ (y : Stage). y.check) one ∙ unchecked in
            absurd cc
        | inr other ↦ absurd (let later = either (bytes_eq name s.name) false here other in cc)
      ]
      by_check before x None found named was here = elim (cases_Bool (bytes_eq name s.name)) [
        | inl equal ↦
            or-right (bytes_eq name s.program) (is_on (from n x.program) s.program)
            (subst (λ (y : Stage). is_on (from n x.program) y.program ≡ true) (the_stage x found named equal) (first-on n x.program))
        | inr other ↦
            or-right (bytes_eq name s.program) (is_on (from n x.program) s.program)
            (before x.program (program-below n x found) (either (bytes_eq name s.name) (is_on (from n x.program) s.name) here other))
      ]

      by_test : Before → (x : Stage) (t : Bool) → slice_get recipe.stages n ≡ Some x → bytes_eq x.name name ≡ t
          → Closes (cond t (name ∷ unless_checked x.check (from n x.program)) (from n name))
      by_test before x true found named here = by_check before x x.check found named refl here
      by_test before x false found named here =
          before name
          (lower n name (meant name) refl below (λ y y_at y_named. (let one = same_element x y (sym found ∙ y_at) in
          let other : bytes_eq x.name name ≡ true = ap (λ (z : Stage). bytes_eq z.name name) one ∙ y_named in absurd cc)))
          here

      by_get : Before → (o : Option Stage) → slice_get recipe.stages n ≡ o → Closes (made_at name o (from n name) (λ program. from n program))
      by_get before None found here = before name (lower n name (meant name) refl below (λ y y_at y_named. absurd cc)) here
      by_get before (Some x) found here = by_test before x (bytes_eq x.name name) found refl here
