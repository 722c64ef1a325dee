-- What every part of a way back has; and its steps, as the code takes them.
use Rattle.std.proofs.Common.{◌≡◌, ℕ, zero, suc, ◌-◌, ◌<◌, ◌&&◌, Bool, true, false, cond, Option, None, Some, List, [], ◌∷◌, ◌++◌, length, map, get_or, refl, sym, ap, ap₂, ◌∙◌, subst, arith, All}
use Rattle.std.specs.Prelude.{filter, is_none, slice_get}
use Rattle.std.proofs.lemmas.List.Elements.{All-append, All-cons, All-nil}
use Rattle.std.proofs.lemmas.List.Folds.{list_any_at}
use Rattle.std.proofs.lemmas.Slice.Eq.{bytes_eq-Decides}
use Rattle.recipe.specs.declared.contents.RecipeContents.{RecipeContents}
use Rattle.recipe.specs.declared.parts.Source.{Source}
use Rattle.recipe.specs.declared.parts.Stage.{Stage}
use Rattle.recipe.specs.Lookups.{source_named}
use Rattle.wheeler.specs.Assumptions.{assumed, is_trusted, runs_unchecked}
use Rattle.wheeler.specs.Routes.{about}
use Rattle.wheeler.proofs.RouteLines.{fewer-lines}
use Rattle.wheeler.proofs.RouteClosed.{element, within}
use Rattle.audit_chain.specs.declared.rests.basis_part.BasisPart.{BasisPart}
use Rattle.audit_chain.specs.declared.rests.basis_part.BasisPart.TheVariants.{Reads, Links, Runs}
use Rattle.audit_chain.specs.Rests.Basis.{lines}
use Rattle.audit_chain.specs.Rests.Walk.{HasParts, check_parts, file_part, is_part_named, is_program, meets, part_name, parts_by, parts_of, runs_meet, walk, walk_from, with_stage}
use Rattle.audit_chain.proofs.RestsLemmas.Closed.{files-parts, named-by}
use Rattle.audit_chain.proofs.RestsLemmas.Tests.{All-map, any-has}

module _ (recipe : RecipeContents) where
  -- what holds of the parts so far holds of those that stages on the way add
  abbrev pub Kept : (BasisPart → Type 0) → Type 0
  Kept P = (parts : List BasisPart) (k : ℕ) (x : Stage) → All P parts → slice_get recipe.stages k ≡ Some x → meets parts x.name ≡ true → All P (parts_of recipe x)

  pub all-from : (P : BasisPart → Type 0) → Kept P → (n : ℕ) (parts : List BasisPart) → All P parts → All P (walk_from recipe n parts)
  unfolding walk_from
  all-from P kept zero parts all = all
  all-from P kept (suc n) parts all = all-from P kept n (with_stage recipe parts (slice_get recipe.stages n)) (by_get (slice_get recipe.stages n) refl) where
    by_test : (x : Stage) → slice_get recipe.stages n ≡ Some x → (b : Bool) → meets parts x.name ≡ b → All P (cond b (parts ++ parts_of recipe x) parts)
    by_test x at true met = All-append P parts (parts_of recipe x) all (kept parts n x all at met)
    by_test x at false met = all

    by_get : (o : Option Stage) → slice_get recipe.stages n ≡ o → All P (with_stage recipe parts o)
    by_get None at = all
    by_get (Some x) at = by_test x at (meets parts x.name) refl

  -- ---- programs on the way are programs of unchecked stages

  abbrev Trusted : BasisPart → Type 0
  Trusted (Reads name) = Unit {0}
  Trusted (Links name) = Unit {0}
  Trusted (Runs name) = is_trusted recipe name ≡ true

  trusts : (index : ℕ) (stage : Stage) → slice_get recipe.stages index ≡ Some stage → stage.check ≡ None → is_trusted recipe stage.program ≡ true
  unfolding is_trusted
  trusts index stage at unchecked =
      let here : get_or recipe.stages index stage ≡ stage = element recipe.stages index stage stage at in
      let own : runs_unchecked stage.program stage ≡ true =
      ap₂ (λ a b. a && b) (ap is_none unchecked) ((bytes_eq-Decides stage.program stage.program).1 refl) in
      list_any_at (runs_unchecked stage.program) recipe.stages index stage (within recipe.stages index stage at) (ap (runs_unchecked stage.program) here ∙ own)

  parts-trusted : (k : ℕ) (stage : Stage) → slice_get recipe.stages k ≡ Some stage → All Trusted (parts_of recipe stage)
  unfolding parts_of
  parts-trusted k stage at = by_check stage.check refl where
    by_source : (o : Option Source) → All Trusted (check_parts o)
    by_source None = All-nil Trusted
    by_source (Some source) = files-parts Trusted source.lang source.files (λ k d less. tt) (λ k d less. tt)

    by_check : (o : Option (List ℕ)) → stage.check ≡ o → All Trusted (parts_by recipe stage o)
    by_check None was = All-cons Trusted (Runs stage.program) (map file_part stage.files) (trusts k stage at was) (All-map Trusted file_part stage.files (λ k d less. tt))
    by_check (Some name) was = by_source (source_named recipe.sources name)

  pub run-trusted : (name program : List ℕ) → runs_meet (walk recipe name) program ≡ true → is_trusted recipe program ≡ true
  unfolding walk
  run-trusted name program is =
      any-has (is_program program) (is_trusted recipe program ≡ true) Trusted (walk recipe name)
      (all-from Trusted (λ parts k x all at met. parts-trusted k x at) (length recipe.stages) (Links name ∷ []) (All-cons Trusted (Links name) [] tt (All-nil Trusted))) by_part is where
        by_part : (p : BasisPart) → Trusted p → is_program program p ≡ true → is_trusted recipe program ≡ true
        by_part (Reads other) has same = absurd cc
        by_part (Links other) has same = absurd cc
        by_part (Runs other) has same = subst (λ n. is_trusted recipe n ≡ true) ((bytes_eq-Decides other program).0 same) has

  -- the lines of a basis are those of the whole audit that are about programs on the way back, in its order
  pub lines-are : (name : List ℕ) → lines recipe name ≡ filter (λ l. runs_meet (walk recipe name) (about l)) (assumed recipe)
  unfolding lines
  lines-are name = fewer-lines (runs_meet (walk recipe name)) (is_trusted recipe) (run-trusted name) recipe

  -- ---- the least

  pub least : (name : List ℕ) (chosen : List ℕ → Bool) → chosen name ≡ true → HasParts recipe chosen → (other : List ℕ) → meets (walk recipe name) other ≡ true → chosen other ≡ true
  unfolding walk
  least name chosen first has other met =
      any-has (is_part_named other) (chosen other ≡ true) Chosen (walk recipe name)
      (all-from Chosen kept (length recipe.stages) (Links name ∷ []) (All-cons Chosen (Links name) [] first (All-nil Chosen)))
      (λ p is same. subst (λ n. chosen n ≡ true) ((bytes_eq-Decides (part_name p) other).0 (sym (named-by other p) ∙ same)) is) met where
        Chosen : BasisPart → Type 0
        Chosen p = chosen (part_name p) ≡ true

        kept : Kept Chosen
        kept parts k x all at on =
            has k x at
            (any-has (is_part_named x.name) (chosen x.name ≡ true) Chosen parts all
            (λ p is same. subst (λ n. chosen n ≡ true) ((bytes_eq-Decides (part_name p) x.name).0 (sym (named-by x.name p) ∙ same)) is) on)

  -- ---- the steps of the code

  pub walk-first : (parts : List BasisPart) → walk_from recipe 0 parts ≡ parts
  unfolding walk_from
  walk-first parts = refl

  pub walk-step : (n : ℕ) (parts : List BasisPart) (x : Stage) (b : Bool) → 0 < n → slice_get recipe.stages (n - 1) ≡ Some x → meets parts x.name ≡ b
      → walk_from recipe n parts ≡ walk_from recipe (n - 1) (cond b (parts ++ parts_of recipe x) parts)
  unfolding walk_from
  walk-step zero parts x b some at met = absurd (omega (arith, some))
  walk-step (suc n) parts x b some at met =
      let less : suc n - 1 ≡ n = omega arith in
      let here : slice_get recipe.stages n ≡ Some x = ap (slice_get recipe.stages) (sym less) ∙ at in
      ap (λ o. walk_from recipe n (with_stage recipe parts o)) here
      ∙ ap (λ t. walk_from recipe n (cond t (parts ++ parts_of recipe x) parts)) met
      ∙ ap (λ m. walk_from recipe m (cond b (parts ++ parts_of recipe x) parts)) (sym less)
