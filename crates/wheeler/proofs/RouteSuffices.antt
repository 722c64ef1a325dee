-- The stage of a route follows from the lines of that route alone.
use Rattle.std.proofs.Common.{◌≡◌, ℕ, zero, suc, ◌-◌, ◌<◌, ◌||◌, ◌&&◌, Bool, true, false, cond, Option, None, Some, List, [], ◌∷◌, length, get_or, refl, sym, ap, ap₂, ◌∙◌, subst, arith, All, inl, inr}
use Rattle.std.specs.Prelude.{bytes_eq, find, slice_get, is_none}
use Rattle.std.proofs.lemmas.Bool.{cases_Bool}
use Rattle.std.proofs.lemmas.List.Folds.{list_any_at}
use Rattle.std.proofs.lemmas.Slice.Eq.{bytes_eq-Decides}
use Rattle.recipe.specs.declared.contents.RecipeContents.{RecipeContents}
use Rattle.recipe.specs.declared.parts.Stage.{Stage}
use Rattle.recipe.specs.Kept.{IsRecipe}
use Rattle.report.specs.declared.types.Report.{Report}
use Rattle.audit_rules.specs.Contents.{Contents}
use Rattle.wheeler.specs.AllContents.{all_contents, stage_named}
use Rattle.wheeler.specs.Assumptions.{Holds, is_trusted, trust_lines, runs_unchecked}
use Rattle.wheeler.specs.Follows.{FollowsBy}
use Rattle.wheeler.specs.Meaning.{Compiles, Prescribes}
use Rattle.wheeler.proofs.Argument.{IsClosed, sound-law, follows-stage}
use Rattle.wheeler.proofs.Gathering.{Reached}
use Rattle.wheeler.proofs.Sound.{Laws, Facts, Sound}
use Rattle.wheeler.specs.Routes.{unless_checked, made_at, route_from, route_by, route, route_named, is_on}
use Rattle.wheeler.proofs.RouteClosed.{IsBelow, meant, more-below, there, within, element, program-below, first-on, closed-from}

-- the programs of a stage that is there
abbrev pub routed : RecipeContents → Stage → List (List ℕ)
routed recipe stage = unless_checked stage.check (route_from recipe.stages (length recipe.stages) stage.program)

-- a stage's program is made by one of the stages
made-there : (recipe : RecipeContents) (ok : IsRecipe recipe) (index : ℕ) (stage : Stage) → slice_get recipe.stages index ≡ Some stage
    → IsBelow (length recipe.stages) (meant recipe ok stage.program)
made-there recipe ok index stage at =
    more-below index (length recipe.stages) (meant recipe ok stage.program) (omega (arith, within recipe.stages index stage at)) (program-below recipe ok index stage at)

-- trust goes on along a route
closed : (recipe : RecipeContents) → IsRecipe recipe → (index : ℕ) (stage : Stage) → slice_get recipe.stages index ≡ Some stage → (o : Option (List ℕ)) → stage.check ≡ o
    → IsClosed (is_on (unless_checked o (route_from recipe.stages (length recipe.stages) stage.program))) recipe
closed recipe ok index stage at (Some check) was = λ k d less unchecked on. absurd cc
closed recipe ok index stage at None was =
    λ k d less unchecked on.
    closed-from recipe ok (length recipe.stages) stage.program (made-there recipe ok index stage at) k (get_or recipe.stages k d) (there recipe.stages k d less) unchecked on

-- a stage follows from the lines of its own route
pub suffices : (prescribes : Prescribes) (compiles : Compiles) → Laws prescribes compiles → (recipe : RecipeContents) (inputs : List (List ℕ)) (report : Report) → IsRecipe recipe
    → Reached recipe inputs report → (index : ℕ) (stage : Stage) → slice_get recipe.stages index ≡ Some stage
    → All (Holds prescribes compiles recipe (all_contents recipe inputs)) (trust_lines (is_on (routed recipe stage)) recipe)
    → FollowsBy prescribes recipe (all_contents recipe inputs) stage stage.check
suffices prescribes compiles laws recipe inputs report ok r index stage at lines =
    let all : Contents = all_contents recipe inputs in
    let trusted : List ℕ → Bool = is_on (routed recipe stage) in
    let both = sound-law prescribes compiles laws trusted recipe all ok r.are r.ran (closed recipe ok index stage at stage.check refl) lines in
    let less : index < length recipe.stages = within recipe.stages index stage at in
    let Known : Stage → Type 0 = λ s. Facts prescribes compiles trusted recipe all s × Sound prescribes trusted recipe all s.program in
    let mine : Known stage = subst Known (element recipe.stages index stage stage at) (both index stage less) in
    let needed : stage.check ≡ None → trusted stage.program ≡ true =
    λ unchecked. ap (λ o. is_on (unless_checked o (route_from recipe.stages (length recipe.stages) stage.program)) stage.program) unchecked
    ∙ first-on recipe ok (length recipe.stages) stage.program in
    follows-stage prescribes compiles laws trusted recipe all stage mine.0 needed mine.1

-- what a search finds stands at an index
pub found-at : (test : Stage → Bool) (stages : List Stage) (stage : Stage) → find test stages ≡ Some stage → (index : ℕ) × (slice_get stages index ≡ Some stage)
found-at test [] stage is = absurd cc
found-at test (x ∷ stages) stage is = by_test (test x) is (found-at test stages stage)
  where
    by_test : (t : Bool) → cond t (Some x) (find test stages) ≡ Some stage
        → (find test stages ≡ Some stage → (index : ℕ) × (slice_get stages index ≡ Some stage))
        → (index : ℕ) × (slice_get (x ∷ stages) index ≡ Some stage)
    by_test true is later = (0, is)
    by_test false is later = let rest = later is in (suc rest.0, rest.1)

-- ---- what stands on a route is the program of an unchecked stage

or-right : (a b : Bool) → b ≡ true → (a || b) ≡ true
or-right true b is = refl
or-right false b is = is

-- the names on the route are trusted, where the first is
module _ (recipe : RecipeContents) where
  trusts : (index : ℕ) (stage : Stage) → slice_get recipe.stages index ≡ Some stage → stage.check ≡ None → is_trusted recipe stage.program ≡ true
  unfolding is_trusted
  trusts index stage at unchecked =
      let less = within recipe.stages index stage at in
      let here : get_or recipe.stages index stage ≡ stage = element recipe.stages index stage stage at in
      let passes : runs_unchecked stage.program stage ≡ true =
      ap₂ (λ a b. a && b) (ap is_none unchecked) ((bytes_eq-Decides stage.program stage.program).1 refl) in
      list_any_at (runs_unchecked stage.program) recipe.stages index stage less (ap (runs_unchecked stage.program) here ∙ passes)

  on-from : (n : ℕ) (program : List ℕ) → is_trusted recipe program ≡ true → (name : List ℕ) → is_on (route_from recipe.stages n program) name ≡ true
      → is_trusted recipe name ≡ true
  unfolding route_from
  on-from zero program is name on = elim (cases_Bool (bytes_eq program name)) [
    | inl equal ↦ subst (λ x. is_trusted recipe x ≡ true) ((bytes_eq-Decides program name).0 equal) is
    | inr other ↦ absurd (let none : false ≡ true = sym (ap (λ b. b || false) other) ∙ on in cc)
  ]
  on-from (suc n) program is name on = by_get (λ later is here. on-from n later is name here) (slice_get recipe.stages n) refl on
    where
      Goal : List (List ℕ) → Type 0
      Goal names = is_on names name ≡ true → is_trusted recipe name ≡ true

      Before : Type 0
      Before = (later : List ℕ) → is_trusted recipe later ≡ true → Goal (route_from recipe.stages n later)

      by_head : (rest : List (List ℕ)) → Goal rest → Goal (program ∷ rest)
      by_head rest later here = elim (cases_Bool (bytes_eq program name)) [
        | inl equal ↦ subst (λ x. is_trusted recipe x ≡ true) ((bytes_eq-Decides program name).0 equal) is
        | inr other ↦ later (sym (ap (λ b. b || is_on rest name) other) ∙ here)
      ]

      by_check : Before → (x : Stage) (o : Option (List ℕ)) → slice_get recipe.stages n ≡ Some x → x.check ≡ o → Goal (unless_checked o (route_from recipe.stages n x.program))
      by_check before x (Some check) at was here = absurd cc
      by_check before x None at was here = before x.program (trusts n x at was) here

      by_test : Before → (x : Stage) (t : Bool) → slice_get recipe.stages n ≡ Some x
          → Goal (cond t (program ∷ unless_checked x.check (route_from recipe.stages n x.program)) (route_from recipe.stages n program))
      by_test before x true at here = by_head (unless_checked x.check (route_from recipe.stages n x.program)) (by_check before x x.check at refl) here
      by_test before x false at here = before program is here

      by_get : Before → (o : Option Stage) → slice_get recipe.stages n ≡ o → Goal (made_at program o (route_from recipe.stages n program) (λ p. route_from recipe.stages n p))
      by_get before None at here = before program is here
      by_get before (Some x) at here = by_test before x (bytes_eq x.name program) at here

on-by : (recipe : RecipeContents) (o : Option Stage) (name : List ℕ) → ((x : Stage) → o ≡ Some x → (index : ℕ) × (slice_get recipe.stages index ≡ Some x))
    → is_on (route_by recipe o) name ≡ true → is_trusted recipe name ≡ true
on-by recipe None name at on = absurd cc
on-by recipe (Some x) name at on = by_check x.check refl on
  where
    by_check : (o : Option (List ℕ)) → x.check ≡ o → is_on (unless_checked o (route_from recipe.stages (length recipe.stages) x.program)) name ≡ true → is_trusted recipe name ≡ true
    by_check (Some check) was here = absurd cc
    by_check None was here =
        let at_index = at x refl in
        on-from recipe (length recipe.stages) x.program (trusts recipe at_index.0 x at_index.1 was) name here

pub on-trusted : (recipe : RecipeContents) (number : ℕ) (name : List ℕ) → is_on (route recipe number) name ≡ true → is_trusted recipe name ≡ true
unfolding route
on-trusted recipe number name on = on-by recipe (slice_get recipe.stages (number - 1)) name (λ x at. (number - 1, at)) on

pub named-trusted : (recipe : RecipeContents) (stage name : List ℕ) → is_on (route_named recipe stage) name ≡ true → is_trusted recipe name ≡ true
unfolding route_named
named-trusted recipe stage name on =
    on-by recipe (stage_named recipe.stages stage) name (found-at (λ (s : Stage). bytes_eq s.name stage) recipe.stages) on
