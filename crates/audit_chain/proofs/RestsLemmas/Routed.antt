-- What stands on a stage's route is run on the way back from the stage.
use Rattle.std.proofs.Common.{◌≡◌, ℕ, zero, suc, ◌||◌, Bool, true, false, cond, Option, None, Some, List, ◌∷◌, length, get_or, refl, sym, ap, ◌∙◌, subst, inl, inr}
use Rattle.std.specs.Prelude.{bytes_eq, slice_get}
use Rattle.std.proofs.lemmas.Bool.{cases_Bool}
use Rattle.std.proofs.lemmas.Slice.Eq.{bytes_eq-Decides}
use Rattle.recipe.specs.declared.contents.RecipeContents.{RecipeContents}
use Rattle.recipe.specs.declared.parts.Stage.{Stage}
use Rattle.recipe.specs.Kept.{IsRecipe}
use Rattle.wheeler.specs.AllContents.{stage_named}
use Rattle.wheeler.specs.Routes.{unless_checked, made_at, route_by, route_from, route_named, is_on}
use Rattle.wheeler.proofs.Directions.{found}
use Rattle.wheeler.proofs.RouteClosed.{element, within}
use Rattle.wheeler.proofs.RouteSuffices.{found-at}
use Rattle.audit_chain.specs.declared.rests.basis_part.BasisPart.{BasisPart}
use Rattle.audit_chain.specs.Rests.Walk.{HasParts, is_part_named, meets, part_name, parts_of, runs_meet, walk}
use Rattle.audit_chain.proofs.RestsLemmas.Closed.{begins, closed, named-by}
use Rattle.audit_chain.proofs.RestsLemmas.Tests.{any-weaker, each-own}
use Rattle.audit_chain.proofs.RestsLemmas.Whole.{goes-on, runs-met}

module _ (recipe : RecipeContents) (ok : IsRecipe recipe) (name : List ℕ) where
  abbrev pub Runs-it : List ℕ → Type 0
  Runs-it program = runs_meet (walk recipe name) program ≡ true

  next-run : (k : ℕ) (stage : Stage) → slice_get recipe.stages k ≡ Some stage → meets (walk recipe name) stage.name ≡ true → stage.check ≡ None → Runs-it stage.program
  next-run k stage at met was =
      let P : Stage → Type 0 = λ s. meets (walk recipe name) s.name ≡ true → s.check ≡ None → Runs-it s.program in
      subst P (element recipe.stages k stage stage at) (goes-on recipe ok name k stage (within recipe.stages k stage at)) met was

  on-run : (n : ℕ) (program : List ℕ) → Runs-it program → (other : List ℕ) → is_on (route_from recipe.stages n program) other ≡ true → Runs-it other
  unfolding route_from
  on-run zero program is other on = elim (cases_Bool (bytes_eq program other)) [
    | inl equal ↦ subst Runs-it ((bytes_eq-Decides program other).0 equal) is
    | inr differ ↦ absurd (let none : false ≡ true = sym (ap (λ b. b || false) differ) ∙ on in cc)
  ]
  on-run (suc n) program is other on = by_get (λ later has here. on-run n later has other here) (slice_get recipe.stages n) refl on
    where
      Goal : List (List ℕ) → Type 0
      Goal names = is_on names other ≡ true → Runs-it other

      Before : Type 0
      Before = (later : List ℕ) → Runs-it later → Goal (route_from recipe.stages n later)

      by_head : (rest : List (List ℕ)) → Goal rest → Goal (program ∷ rest)
      by_head rest later here = elim (cases_Bool (bytes_eq program other)) [
        | inl equal ↦ subst Runs-it ((bytes_eq-Decides program other).0 equal) is
        | inr differ ↦ later (sym (ap (λ b. b || is_on rest other) differ) ∙ here)
      ]

      by_check : Before → (x : Stage) → slice_get recipe.stages n ≡ Some x → bytes_eq x.name program ≡ true → (o : Option (List ℕ)) → x.check ≡ o
          → Goal (unless_checked o (route_from recipe.stages n x.program))
      by_check before x at same (Some check) was here = absurd cc
      by_check before x at same None was here =
          let met = subst (λ m. meets (walk recipe name) m ≡ true) (sym ((bytes_eq-Decides x.name program).0 same)) (runs-met recipe ok name program is) in
          before x.program (next-run n x at met was) here

      by_test : Before → (x : Stage) → slice_get recipe.stages n ≡ Some x → (t : Bool) → bytes_eq x.name program ≡ t
          → Goal (cond t (program ∷ unless_checked x.check (route_from recipe.stages n x.program)) (route_from recipe.stages n program))
      by_test before x at true same = by_head (unless_checked x.check (route_from recipe.stages n x.program)) (by_check before x at same x.check refl)
      by_test before x at false same = before program is

      by_get : Before → (o : Option Stage) → slice_get recipe.stages n ≡ o → Goal (made_at program o (route_from recipe.stages n program) (λ later. route_from recipe.stages n later))
      by_get before None at = before program is
      by_get before (Some x) at = by_test before x at (bytes_eq x.name program) refl

  pub route-run : (other : List ℕ) → is_on (route_named recipe name) other ≡ true → Runs-it other
  unfolding route_named
  route-run other on = by_stage (stage_named recipe.stages name) refl on where
    by_check : (stage : Stage) → stage_named recipe.stages name ≡ Some stage → (o : Option (List ℕ)) → stage.check ≡ o
        → is_on (unless_checked o (route_from recipe.stages (length recipe.stages) stage.program)) other ≡ true → Runs-it other
    by_check stage at (Some check) was here = absurd cc
    by_check stage at None was here =
        let index = found-at (λ (s : Stage). bytes_eq s.name name) recipe.stages stage at in
        let own : bytes_eq stage.name name ≡ true = (found (λ (s : Stage). bytes_eq s.name name) (λ s. Unit {0}) recipe.stages stage (λ k d less. tt) at).1 in
        let met = subst (λ m. meets (walk recipe name) m ≡ true) (sym ((bytes_eq-Decides stage.name name).0 own)) (begins recipe ok name) in
        on-run (length recipe.stages) stage.program (next-run index.0 stage index.1 met was) other here

    by_stage : (o : Option Stage) → stage_named recipe.stages name ≡ o → is_on (route_by recipe o) other ≡ true → Runs-it other
    by_stage None at here = absurd cc
    by_stage (Some stage) at here = by_check stage at stage.check refl here

  -- the way back has the parts of each stage that it has
  pub has-parts : HasParts recipe (meets (walk recipe name))
  has-parts k stage at met =
      let own_name : BasisPart → BasisPart → Bool = λ p q. bytes_eq (part_name q) (part_name p) in
      let own = each-own own_name (λ p. (bytes_eq-Decides (part_name p) (part_name p)).1 refl) (parts_of recipe stage) in
      λ i d less.
      let p = get_or (parts_of recipe stage) i d in
      any-weaker (own_name p) (is_part_named (part_name p)) (λ q here. named-by (part_name p) q ∙ here) (walk recipe name)
      (closed recipe ok name k stage at met (own_name p) (own i d less))
