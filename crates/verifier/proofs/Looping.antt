-- The stages' lines, one after the other.
use Rattle.std.proofs.Common.{◌≡◌, ℕ, zero, suc, ◌+◌, ◌-◌, ◌<◌, ◌≤◌, Option, None, Some, Ok, Err, List, [], ◌∷◌, ◌++◌, length, drop, take, get_or, refl, sym, ap, subst, ◌∙◌, arith, inl, inr}
use Rattle.std.specs.Prelude.{Contains, slice_get}
use Rattle.std.proofs.lemmas.Bool.{cases_lt}
use Rattle.std.proofs.lemmas.Option.{same_Some, slice_get-get_or, slice_get_past}
use Rattle.std.proofs.lemmas.List.{at_drop_all, at_drop_more}
use Rattle.recipe.specs.declared.contents.RecipeContents.{RecipeContents}
use Rattle.recipe.specs.declared.parts.Stage.{Stage}
use Rattle.report.specs.declared.types.StageLine.{StageLine}
use Rattle.audit_rules.specs.Contents.{Contents}
use Rattle.verifier.specs.declared.part.Part.{Part}
use Rattle.verifier.specs.Faults.{fault_after_stage, replayed, stages_fault, with_artefact}
use Rattle.verifier.specs.Verdicts.{AreReplayed, CanWantAt, IsAtPart}

drop-found : {A : Type 0} (xs : List A) (index : ℕ) (x : A) → slice_get xs index ≡ Some x → drop index xs ≡ x ∷ drop (index + 1) xs
drop-found [] index x is = absurd cc
drop-found (y ∷ ys) zero x is = ap (λ z. z ∷ ys) (same_Some y x is)
drop-found (y ∷ ys) (suc index) x is =
    let next : suc index + 1 ≡ suc (index + 1) = omega arith in
    drop-found ys index x is ∙ ap (λ n. x ∷ drop n (y ∷ ys)) (sym next)

take-found : {A : Type 0} (xs : List A) (index : ℕ) (x : A) → slice_get xs index ≡ Some x → take (index + 1) xs ≡ take index xs ++ x ∷ []
take-found [] index x is = absurd cc
take-found (y ∷ ys) zero x is = ap (λ z. z ∷ []) (same_Some y x is)
take-found (y ∷ ys) (suc index) x is =
    let next : suc index + 1 ≡ suc (index + 1) = omega arith in
    ap (λ n. take n (y ∷ ys)) next ∙ ap (λ l. y ∷ l) (take-found ys index x is)

drop-past : {A : Type 0} (xs : List A) (index : ℕ) → slice_get xs index ≡ None → drop index xs ≡ []
drop-past [] zero none = refl
drop-past [] (suc index) none = refl
drop-past (y ∷ ys) zero none = absurd cc
drop-past (y ∷ ys) (suc index) none = drop-past ys index none

-- a stage that is there is one of them, below their count
pub among : {A : Type 0} (xs : List A) (index : ℕ) (x : A) → slice_get xs index ≡ Some x → Contains xs x × (index < length xs)
among xs index x is = elim (cases_lt index (length xs)) [
  | inl less ↦ ((index, less, same_Some (get_or xs index x) x (sym (slice_get-get_or xs index x less) ∙ is)), less)
  | inr past ↦ absurd (let none = sym (slice_get_past xs index past) ∙ is in cc)
]

-- the next stage and its line
pub at_stage : (recipe : RecipeContents) (last : Contents → Option (Part × ℕ)) (so_far : Contents) (stages : List Stage) (lines : List StageLine) (index : ℕ) (stage : Stage) (line : StageLine)
    → slice_get stages index ≡ Some stage → index < length lines → line ≡ get_or lines index line
    → stages_fault recipe last so_far (drop index stages) (drop index lines)
    ≡ stages_fault recipe last so_far (stage ∷ drop (index + 1) stages) (line ∷ drop (index + 1) lines)
at_stage recipe last so_far stages lines index stage line found less is =
    let next : drop index lines ≡ line ∷ drop (index + 1) lines = at_drop_more (λ l. l) lines index line less ∙ ap (λ l. l ∷ drop (index + 1) lines) (sym is) in
    λ i. stages_fault recipe last so_far (drop-found stages index stage found i) (next i)

pub goes_on : (recipe : RecipeContents) (last : Contents → Option (Part × ℕ)) (so_far : Contents) (stage : Stage) (later : List Stage) (line : StageLine) (others : List StageLine) (made : List ℕ)
    → replayed recipe so_far stage line ≡ Ok made
    → stages_fault recipe last so_far (stage ∷ later) (line ∷ others) ≡ stages_fault recipe last (with_artefact so_far made) later others
goes_on recipe last so_far stage later line others made is =
    ap (λ r. fault_after_stage (length so_far.artefacts + 1) r (λ m. stages_fault recipe last (with_artefact so_far m) later others)) is

pub stops : (recipe : RecipeContents) (last : Contents → Option (Part × ℕ)) (so_far : Contents) (stage : Stage) (later : List Stage) (line : StageLine) (others : List StageLine) (why : Part)
    → replayed recipe so_far stage line ≡ Err why
    → stages_fault recipe last so_far (stage ∷ later) (line ∷ others) ≡ Some (why, length so_far.artefacts + 1)
stops recipe last so_far stage later line others why is =
    ap (λ r. fault_after_stage (length so_far.artefacts + 1) r (λ m. stages_fault recipe last (with_artefact so_far m) later others)) is

-- after the last stage, or the last line, the comparison is left
pub no_stage : (recipe : RecipeContents) (last : Contents → Option (Part × ℕ)) (so_far : Contents) (stages : List Stage) (lines : List StageLine) (index : ℕ) → slice_get stages index ≡ None
    → stages_fault recipe last so_far (drop index stages) lines ≡ last so_far
no_stage recipe last so_far stages lines index none = ap (λ s. stages_fault recipe last so_far s lines) (drop-past stages index none)

pub no_line : (recipe : RecipeContents) (last : Contents → Option (Part × ℕ)) (so_far : Contents) (stages : List Stage) (lines : List StageLine) (index : ℕ) → length lines ≤ index
    → stages_fault recipe last so_far stages (drop index lines) ≡ last so_far
no_line recipe last so_far stages lines index past = at_drop_all (stages_fault recipe last so_far stages) lines index past ∙ by_stages stages where
  by_stages : (stages : List Stage) → stages_fault recipe last so_far stages [] ≡ last so_far
  by_stages [] = refl
  by_stages (stage ∷ stages) = refl

-- ---- the lines that are right

one-more : (recipe : RecipeContents) (so_far all : Contents) (stages : List Stage) (lines : List StageLine) (stage : Stage) (line : StageLine) (made : List ℕ)
    → AreReplayed recipe so_far stages lines all → replayed recipe all stage line ≡ Ok made
    → AreReplayed recipe so_far (stages ++ stage ∷ []) (lines ++ line ∷ []) (with_artefact all made)
one-more recipe so_far all [] [] stage line made before right =
    (made, subst (λ c. replayed recipe c stage line ≡ Ok made) before right, ap (λ (c : Contents). with_artefact c made) before)
one-more recipe so_far all [] (l ∷ lines) stage line made before right = absurd before
one-more recipe so_far all (s ∷ stages) [] stage line made before right = absurd before
one-more recipe so_far all (s ∷ stages) (l ∷ lines) stage line made before right =
    (before.0, before.1, one-more recipe (with_artefact so_far before.0) all stages lines stage line made before.2 right)

pub replayed_on : (recipe : RecipeContents) (so_far all : Contents) (stages : List Stage) (lines : List StageLine) (index : ℕ) (stage : Stage) (line : StageLine) (made : List ℕ)
    → slice_get stages index ≡ Some stage → index < length lines → line ≡ get_or lines index line
    → AreReplayed recipe so_far (take index stages) (take index lines) all → replayed recipe all stage line ≡ Ok made
    → AreReplayed recipe so_far (take (index + 1) stages) (take (index + 1) lines) (with_artefact all made)
replayed_on recipe so_far all stages lines index stage line made found less is before right =
    let there : slice_get lines index ≡ Some line = slice_get-get_or lines index line less ∙ ap Some (sym is) in
    subst (λ (s : List Stage). AreReplayed recipe so_far s (take (index + 1) lines) (with_artefact all made)) (sym (take-found stages index stage found))
    (subst (λ (l : List StageLine). AreReplayed recipe so_far (take index stages ++ stage ∷ []) l (with_artefact all made)) (sym (take-found lines index line there))
    (one-more recipe so_far all (take index stages) (take index lines) stage line made before right))

module _ (recipe : RecipeContents) (inputs : List (List ℕ)) (stages : List Stage) (lines : List StageLine) (index number : ℕ) (so_far : Contents) (stage : Stage) (line : StageLine) where
  -- a replay that stands at a part of the stage of this index
  pub denotes : (part : Part) → stages ≡ recipe.stages → number ≡ index + 1 → slice_get stages index ≡ Some stage → index < length lines → line ≡ get_or lines index line
      → AreReplayed recipe (record { inputs = inputs; artefacts = [] }) (take index stages) (take index lines) so_far → CanWantAt recipe so_far stage line part
      → IsAtPart recipe inputs lines number part
  denotes part same is found less line_is before here =
      let index_is : index ≡ number - 1 = omega (arith, is) in
      let there : slice_get lines index ≡ Some line = slice_get-get_or lines index line less ∙ ap Some (sym line_is) in
      record {
        some = omega (arith, is);
        so_far = so_far;
        stage = stage;
        stage_is = subst (λ (n : ℕ). slice_get recipe.stages n ≡ Some stage) index_is (subst (λ (s : List Stage). slice_get s index ≡ Some stage) same found);
        line = line;
        line_is = subst (λ (n : ℕ). slice_get lines n ≡ Some line) index_is there;
        here = here;
        before = subst (λ (n : ℕ). AreReplayed recipe (record { inputs = inputs; artefacts = [] }) (take n recipe.stages) (take n lines) so_far) index_is
            (subst (λ (s : List Stage). AreReplayed recipe (record { inputs = inputs; artefacts = [] }) (take index s) (take index lines) so_far) same before);
      }
