-- The compared stages of a recipe that keeps its rules, and their parent sources.
use Rattle.std.proofs.Common.{◌≡◌, Bool, true, false, cond, ◌||◌, ℕ, None, Some, List, [], ◌∷◌, get_or, refl, sym, ◌∙◌, All}
use Rattle.std.specs.Prelude.{IsSome, bytes_eq, find}
use Rattle.std.specs.List.{list_any, position}
use Rattle.std.proofs.lemmas.Option.{slice_get-get_or}
use Rattle.recipe.specs.declared.contents.RecipeContents.{RecipeContents}
use Rattle.recipe.specs.declared.parts.Stage.{Stage}
use Rattle.recipe.specs.Kept.{IsRecipe}
use Rattle.recipe.specs.Lookups.{source_of, stage_at}
use Rattle.wheeler.specs.Follows.{HasCompared}
use Rattle.wheeler.proofs.Argument.{by-stages}
use Rattle.wheeler.proofs.Directions.{found}
use Rattle.wheeler.proofs.Naming.{no-position, stage-placed}
use Rattle.wheeler.proofs.Sound.{some_of}

module _ {X : Type 0} (test : X → Bool) where
  any-found : (xs : List X) → list_any test xs ≡ true → (x : X) × (find test xs ≡ Some x)
  any-found [] is = absurd cc
  any-found (x ∷ xs) is = by (test x) is (any-found xs) where
    by : (b : Bool) → (b || list_any test xs) ≡ true → (list_any test xs ≡ true → (y : X) × (find test xs ≡ Some y)) → (y : X) × (cond b (Some x) (find test xs) ≡ Some y)
    by true is later = (x, refl)
    by false is later = later is

  -- where a search has a place, it finds
  position-found : (xs : List X) → IsSome (position test xs) → (x : X) × (find test xs ≡ Some x)
  position-found xs some = by (list_any test xs) refl where
    by : (b : Bool) → list_any test xs ≡ b → (x : X) × (find test xs ≡ Some x)
    by true is = any-found xs is
    by false is =
        let count_is = some_of (position test xs) some in
        let both : None ≡ Some count_is.0 = sym (no-position test xs is) ∙ count_is.1 in
        absurd cc

has-stage : (recipe : RecipeContents) → IsRecipe recipe → (name : List ℕ) → IsSome (stage_at recipe.stages name) → HasCompared recipe name
has-stage recipe ok name there =
    let test : Stage → Bool = λ s. bytes_eq s.name name in
    let Argued : Stage → Type 0 = λ s. s.check ≡ None → IsSome (source_of recipe s.program) in
    let argued : All Argued recipe.stages = by-stages recipe Argued [] recipe.stages refl (λ earlier stage rest split. (stage-placed recipe earlier stage rest ok split).kept.argued) in
    let one = position-found test recipe.stages there in
    record {
      stage = one.0;
      compared = one.1;
      parent = λ unchecked.
          let source = some_of (source_of recipe one.0.program) ((found test Argued recipe.stages one.0 argued one.1).0 unchecked) in
          (source.0, record { compared = one.1; unchecked = unchecked; parent = source.1 });
    }

pub has-compared : (recipe : RecipeContents) → IsRecipe recipe → All (HasCompared recipe) recipe.compare.stages
has-compared recipe ok k d less =
    let name = get_or recipe.compare.stages k d in
    has-stage recipe ok name (ok.compared k name (slice_get-get_or recipe.compare.stages k d less))
