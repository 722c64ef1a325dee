-- A route is a stage's program and then the route of the stage that makes it.
use Rattle.std.proofs.Common.{◌≡◌, ℕ, zero, suc, ◌+◌, ◌-◌, ◌++◌, ◌<◌, ◌≤◌, ◌⊎◌, Bool, true, false, cond, Option, None, Some, List, [], ◌∷◌, length, take, drop, refl, sym, ap, ap₂, ◌∙◌, subst, arith, inl, inr}
use Rattle.std.specs.Prelude.{bytes_eq, filter_map, find, nat_lt, slice_get}
use Rattle.std.specs.List.{position, position_or_len}
use Rattle.std.proofs.lemmas.Bool.{cases_lt, ltb-false}
use Rattle.std.proofs.lemmas.List.Folds.{find_at}
use Rattle.std.proofs.lemmas.Option.{same_Some, slice_get_past}
use Rattle.std.proofs.lemmas.Slice.Eq.{bytes_eq-Decides}
use Rattle.recipe.specs.declared.contents.RecipeContents.{RecipeContents}
use Rattle.recipe.specs.declared.parts.Content.TheVariants as content
use Rattle.recipe.specs.declared.parts.Input.{Input}
use Rattle.recipe.specs.declared.parts.Stage.{Stage}
use Rattle.recipe.specs.Kept.{IsRecipe}
use Rattle.recipe.specs.Lookups.{stage_at}
use Rattle.wheeler.specs.AllContents.{stage_named}
use Rattle.wheeler.specs.Assumptions.{input_assumption, stage_assumption, trust_lines}
use Rattle.wheeler.specs.Routes.{assumed_for, assumed_named, unless_checked, is_on, made_at, route, route_by, route_from, route_named}
use Rattle.wheeler.proofs.Directions.{found}
use Rattle.wheeler.proofs.Naming.{stage-placed}
use Rattle.wheeler.proofs.RouteClosed.{IsBelow, lower, meant, more-below, own-stage, program-below, split-at, within}
use Rattle.wheeler.proofs.RouteSuffices.{found-at}

module _ (recipe : RecipeContents) (ok : IsRecipe recipe) where
  -- a stage is found by its own name
  own-found : (index : ℕ) (stage : Stage) → slice_get recipe.stages index ≡ Some stage → stage_named recipe.stages stage.name ≡ Some stage
  own-found index stage at =
      (stage-placed recipe (take index recipe.stages) stage (drop (suc index) recipe.stages) ok (split-at recipe.stages index stage at)).found

  -- what a stage is named after, the stage makes
  meant-by : (index : ℕ) (stage : Stage) (name : List ℕ) → slice_get recipe.stages index ≡ Some stage → bytes_eq stage.name name ≡ true
      → meant recipe ok name ≡ Some (content.Stage index)
  meant-by index stage name at named =
      ap (meant recipe ok) (sym ((bytes_eq-Decides stage.name name).0 named)) ∙ own-stage recipe ok index stage at

  -- later stages add nothing to the programs after what is made before them
  skipped : (low n : ℕ) (name : List ℕ) (earlier : List (List ℕ)) (more : List ℕ → List (List ℕ)) → low ≤ n → IsBelow low (meant recipe ok name)
      → made_at name (slice_get recipe.stages n) earlier more ≡ earlier
  skipped low n name earlier more fits below = by_get (slice_get recipe.stages n) refl
    where
      by_test : (x : Stage) (t : Bool) → slice_get recipe.stages n ≡ Some x → bytes_eq x.name name ≡ t → cond t (name ∷ unless_checked x.check (more x.program)) earlier ≡ earlier
      by_test x true at named =
          let under : n < low = subst (IsBelow low) (meant-by n x name at named) below in
          absurd (omega (arith, under, fits))
      by_test x false at named = refl

      by_get : (o : Option Stage) → slice_get recipe.stages n ≡ o → made_at name o earlier more ≡ earlier
      by_get None at = refl
      by_get (Some x) at = by_test x (bytes_eq x.name name) at refl

  route-more : (low n : ℕ) (name : List ℕ) → low ≤ n → IsBelow low (meant recipe ok name) → route_from recipe.stages n name ≡ route_from recipe.stages low name
  unfolding route_from
  route-more low zero name fits below =
      let same : 0 ≡ low = omega (arith, fits) in
      ap (λ k. route_from recipe.stages k name) same
  route-more low (suc n) name fits below = by_index (cases_lt n low) (route-more low n name)
    where
      by_index : (n < low) ⊎ (low ≤ n) → (low ≤ n → IsBelow low (meant recipe ok name) → route_from recipe.stages n name ≡ route_from recipe.stages low name)
          → route_from recipe.stages (suc n) name ≡ route_from recipe.stages low name
      by_index (inl under) later =
          let same : suc n ≡ low = omega (arith, under, fits) in
          ap (λ k. route_from recipe.stages k name) same
      by_index (inr over) later =
          skipped low n name (route_from recipe.stages n name) (λ program. route_from recipe.stages n program) over below ∙ later over below

  -- a program and the programs after it
  no-stage-named : (name : List ℕ) → IsBelow 0 (meant recipe ok name) → stage_named recipe.stages name ≡ None
  no-stage-named name below = by (stage_named recipe.stages name) refl
    where
      test : Stage → Bool
      test s = bytes_eq s.name name

      by : (o : Option Stage) → stage_named recipe.stages name ≡ o → o ≡ None
      by None is = refl
      by (Some s) is =
          let at_index = found-at (λ (x : Stage). bytes_eq x.name name) recipe.stages s is in
          let named = (found (λ (x : Stage). bytes_eq x.name name) (λ _. Unit {0}) recipe.stages s (λ _ _ _. tt) is).1 in
          let under : at_index.0 < 0 = subst (IsBelow 0) (meant-by at_index.0 s name at_index.1 named) below in
          absurd (omega (arith, under))

  whole : (n : ℕ) (name : List ℕ) → IsBelow n (meant recipe ok name) → route_from recipe.stages n name ≡ name ∷ route_named recipe name
  unfolding route_from route_named
  whole zero name below = ap (λ o. name ∷ route_by recipe o) (sym (no-stage-named name below))
  whole (suc n) name below = by_get (whole n name) (slice_get recipe.stages n) refl
    where
      Before : Type 0
      Before = IsBelow n (meant recipe ok name) → route_from recipe.stages n name ≡ name ∷ route_named recipe name

      by_test : Before → (x : Stage) (t : Bool) → slice_get recipe.stages n ≡ Some x → bytes_eq x.name name ≡ t
          → cond t (name ∷ unless_checked x.check (route_from recipe.stages n x.program)) (route_from recipe.stages n name) ≡ name ∷ route_named recipe name
      by_test before x true at named =
          let same : x.name ≡ name = (bytes_eq-Decides x.name name).0 named in
          let here : stage_named recipe.stages name ≡ Some x = ap (stage_named recipe.stages) (sym same) ∙ own-found n x at in
          let under : n < length recipe.stages = within recipe.stages n x at in
          let more = route-more n (length recipe.stages) x.program (omega (arith, under)) (program-below recipe ok n x at) in
          ap (λ r. name ∷ unless_checked x.check r) (sym more) ∙ ap (λ o. name ∷ route_by recipe o) (sym here)
      by_test before x false at named =
          before (lower recipe ok n name (meant recipe ok name) refl below (λ y y_at y_named. (let one : Some x ≡ Some y = sym at ∙ y_at in
          let other : bytes_eq x.name name ≡ true = ap (λ (o : Option Stage). named_in o) one ∙ y_named in absurd cc)))
        where
          named_in : Option Stage → Bool
          named_in None = false
          named_in (Some z) = bytes_eq z.name name

      by_get : Before → (o : Option Stage) → slice_get recipe.stages n ≡ o
          → made_at name o (route_from recipe.stages n name) (λ program. route_from recipe.stages n program) ≡ name ∷ route_named recipe name
      by_get before None at = before (lower recipe ok n name (meant recipe ok name) refl below (λ y y_at y_named. absurd cc))
      by_get before (Some x) at = by_test before x (bytes_eq x.name name) at refl

pub goes-back : (recipe : RecipeContents) (name : List ℕ) (stage : Stage) → IsRecipe recipe → stage_named recipe.stages name ≡ Some stage
    → route_named recipe name ≡ unless_checked stage.check (stage.program ∷ route_named recipe stage.program)
unfolding route_named
goes-back recipe name stage ok at =
    let at_index = found-at (λ (s : Stage). bytes_eq s.name name) recipe.stages stage at in
    let under : at_index.0 < length recipe.stages = within recipe.stages at_index.0 stage at_index.1 in
    let below = more-below at_index.0 (length recipe.stages) (meant recipe ok stage.program) (omega (arith, under)) (program-below recipe ok at_index.0 stage at_index.1) in
    ap (route_by recipe) at ∙ ap (unless_checked stage.check) (whole recipe ok (length recipe.stages) stage.program below)

pub no-stage : (recipe : RecipeContents) (name : List ℕ) → stage_named recipe.stages name ≡ None → route_named recipe name ≡ []
unfolding route_named
no-stage recipe name none = ap (route_by recipe) none

pub of-number : (recipe : RecipeContents) (number : ℕ) (stage : Stage) → IsRecipe recipe → slice_get recipe.stages (number - 1) ≡ Some stage
    → route recipe number ≡ route_named recipe stage.name
unfolding route route_named
of-number recipe number stage ok at = ap (route_by recipe) at ∙ sym (ap (route_by recipe) (own-found recipe ok (number - 1) stage at))

-- ---- by the place of a name

module _ {A : Type 0} (test : A → Bool) (xs : List A) where
  at-position : (index : ℕ) → position test xs ≡ Some index → find test xs ≡ slice_get xs index
  at-position index at = by (nat_lt (position_or_len test xs) (length xs)) at
    where
      by : (b : Bool) → cond b (Some (position_or_len test xs)) None ≡ Some index → find test xs ≡ slice_get xs index
      by true is = find_at test xs ∙ ap (slice_get xs) (same_Some (position_or_len test xs) index is)
      by false is = absurd cc

  no-position-found : position test xs ≡ None → find test xs ≡ None
  no-position-found at = by (nat_lt (position_or_len test xs) (length xs)) refl at
    where
      by : (b : Bool) → nat_lt (position_or_len test xs) (length xs) ≡ b → cond b (Some (position_or_len test xs)) None ≡ None → find test xs ≡ None
      by true less is = absurd cc
      by false past is = find_at test xs ∙ slice_get_past xs (position_or_len test xs) (ltb-false (position_or_len test xs) (length xs) past)

-- the lines of the stage of a name are those of its number
pub assumed-at : (recipe : RecipeContents) (name : List ℕ) (index : ℕ) → stage_at recipe.stages name ≡ Some index → assumed_named recipe name ≡ assumed_for recipe (index + 1)
unfolding route route_named
assumed-at recipe name index at =
    let at_index : index ≡ (index + 1) - 1 = omega arith in
    ap (λ o. trust_lines (is_on (route_by recipe o)) recipe)
    (at-position (λ (s : Stage). bytes_eq s.name name) recipe.stages index at ∙ ap (slice_get recipe.stages) at_index)

-- a name that is no stage's has none
none-trusted : (recipe : RecipeContents) → trust_lines (is_on []) recipe ≡ []
unfolding trust_lines input_assumption stage_assumption
none-trusted recipe = ap₂ (λ a b. a ++ b) (inputs recipe.inputs) (stages recipe.stages)
  where
    inputs : (xs : List Input) → filter_map (input_assumption (is_on []) recipe) xs ≡ []
    inputs [] = refl
    inputs (x ∷ xs) = inputs xs

    stages : (xs : List Stage) → filter_map (stage_assumption (is_on []) recipe) xs ≡ []
    stages [] = refl
    stages (x ∷ xs) = stages xs

pub assumed-nowhere : (recipe : RecipeContents) (name : List ℕ) → stage_at recipe.stages name ≡ None → assumed_named recipe name ≡ []
unfolding route_named
assumed-nowhere recipe name at =
    ap (λ o. trust_lines (is_on (route_by recipe o)) recipe) (no-position-found (λ (s : Stage). bytes_eq s.name name) recipe.stages at)
    ∙ none-trusted recipe
