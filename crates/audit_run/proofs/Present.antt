-- The present stage is the recipe's at the number of stages that are done.
use Rattle.std.proofs.Common.{◌≡◌, ℕ, zero, suc, ◌+◌, ◌<◌, ◌≤◌, None, Some, List, [], ◌∷◌, length, drop, take, get_or, refl, sym, ap, ◌∙◌, subst, arith}
use Rattle.std.specs.Prelude.{slice_get, nat_lt as ltb, true}
use Rattle.std.proofs.lemmas.Bool.{ltb-true}
use Rattle.std.proofs.lemmas.Option.{none-some, same_Some, slice_get-get_or}
use Rattle.recipe.specs.declared.contents.RecipeContents.{RecipeContents}
use Rattle.recipe.specs.declared.parts.Stage.{Stage}
use Rattle.recipe.specs.Kept as kept
use Rattle.audit_rules.specs.declared.answer.Finished.{Finished}
use Rattle.audit_rules.specs.Positions.{Position, Phase, forward, todo}
use Rattle.audit_rules.specs.Valid.{AreDone, AreFinished, IsAt, IsInputs, IsPosition, IsPhase}
use Rattle.audit_rules.proofs.ValidPositions.{all-made, forward-phase}
use Rattle.audit_rules.proofs.Rules.{rules}
use Rattle.audit_run.specs.Stage.Rules.{AreMade, IsStageOf}
use Rattle.audit_run.specs.Inside.Parts.{later}

-- a list from an index on
pub from-index : {A : Type 0} (xs : List A) (index : ℕ) (x : A) (rest : List A) → drop index xs ≡ x ∷ rest
    → (slice_get xs index ≡ Some x) × (rest ≡ drop (index + 1) xs) × (index < length xs)
from-index [] zero x rest is = absurd cc
from-index [] (suc index) x rest is = absurd cc
from-index (y ∷ xs) zero x rest is = (ap Some (ap (first y) is), sym (ap tail is), omega arith) where
  first : {A : Type 0} → A → List A → A
  first d [] = d
  first d (z ∷ zs) = z

  tail : {A : Type 0} → List A → List A
  tail [] = []
  tail (z ∷ zs) = zs
from-index (y ∷ xs) (suc index) x rest is =
    let inner = from-index xs index x rest is in
    let same : suc index + 1 ≡ suc (index + 1) = omega arith in
    (inner.0, inner.1 ∙ sym (ap (λ n. drop n (y ∷ xs)) same), omega (arith, inner.2))

pub at-index : {A : Type 0} (xs : List A) (index : ℕ) (x : A) → slice_get xs index ≡ Some x → drop index xs ≡ x ∷ drop (index + 1) xs
at-index [] index x is = absurd (none-some x is)
at-index (y ∷ xs) zero x is = ap (λ z. z ∷ xs) (same_Some y x is)
at-index (y ∷ xs) (suc index) x is =
    let same : suc index + 1 ≡ suc (index + 1) = omega arith in
    at-index xs index x is ∙ ap (λ n. x ∷ drop n (y ∷ xs)) (sym same)

past-index : {A : Type 0} (xs : List A) (index : ℕ) → slice_get xs index ≡ None → drop index xs ≡ []
past-index [] zero is = refl
past-index [] (suc index) is = refl
past-index (y ∷ xs) zero is = absurd (none-some y (sym is))
past-index (y ∷ xs) (suc index) is = past-index xs index is

pub stage-there : (recipe : RecipeContents) (done : List Finished) (stage : Stage) → slice_get recipe.stages (length done) ≡ Some stage
    → todo recipe done ≡ stage ∷ later recipe done
stage-there recipe done stage is = at-index recipe.stages (length done) stage is

pub no-stage : (recipe : RecipeContents) (done : List Finished) → slice_get recipe.stages (length done) ≡ None → todo recipe done ≡ []
no-stage recipe done is = past-index recipe.stages (length done) is

pub stage-rules : (recipe : RecipeContents) (index : ℕ) (stage : Stage) → kept.IsRecipe recipe → slice_get recipe.stages index ≡ Some stage → IsStageOf recipe stage
stage-rules recipe index stage is there = (take index recipe.stages, is.stages index stage there)

-- of a stage that was looked up among them
pub found-rules : (recipe : RecipeContents) (items : List Stage) (index : ℕ) (stage : Stage) → kept.IsRecipe recipe → items ≡ recipe.stages → true ≡ ltb index (length items)
    → stage ≡ get_or items index stage → IsStageOf recipe stage
found-rules recipe items index stage is same inside there =
    stage-rules recipe index stage is
    (subst (λ list. slice_get list index ≡ Some stage) same
    (slice_get-get_or items index stage (ltb-true index (length items) (sym inside)) ∙ ap Some (sym there)))

pub made : (recipe : RecipeContents) (done : List Finished) → AreDone recipe done → AreMade done
made recipe done are = all-made recipe.stages done are.each

-- a position has a stage
pub position-index : (recipe : RecipeContents) (p : Position) → IsPosition recipe p → length p.done < length recipe.stages
position-index recipe p (stage, stages, ok) = (from-index recipe.stages (length p.done) stage stages ok.left).2

-- a position is at the stage that is next
pub same-stage : (recipe : RecipeContents) (p : Position) (stage : Stage) (stages : List Stage) → IsPosition recipe p → todo recipe p.done ≡ stage ∷ stages → IsAt recipe p stage stages
same-stage recipe p stage stages (other, rest, ok) left =
    let both : other ∷ rest ≡ stage ∷ stages = sym ok.left ∙ left in
    subst (λ (s : Stage). IsAt recipe p s stages) (ap (head other) both) (subst (λ (ss : List Stage). IsAt recipe p other ss) (ap tail both) ok) where
      head : Stage → List Stage → Stage
      head d [] = d
      head d (x ∷ xs) = x

      tail : List Stage → List Stage
      tail [] = []
      tail (x ∷ xs) = xs

-- where steps from a position come to is valid
pub stays : (recipe : RecipeContents) (inputs : List (List ℕ)) (p : Position) (count : ℕ) (to : Phase) → kept.IsRecipe recipe → IsInputs recipe inputs → IsPosition recipe p
    → forward recipe inputs p count ≡ to → IsPhase recipe to
stays recipe inputs p count to is given ok reached = subst (IsPhase recipe) reached (forward-phase recipe (rules recipe is) inputs given p ok count)

-- fewer stages are done than 256
few : (stages : List Stage) (done : List Finished) → AreFinished stages done → length done ≤ length stages
few stages [] are = omega arith
few [] (f ∷ done) are = absurd are
few (stage ∷ stages) (f ∷ done) are = let rest = few stages done are.1 in omega arith

pub done-few : (recipe : RecipeContents) (done : List Finished) → kept.IsRecipe recipe → AreDone recipe done → length done ≤ 256
done-few recipe done is are = let most = few recipe.stages done are.each in let limit = is.few_stages in omega arith
