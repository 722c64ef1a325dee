-- Stages that were run in order are done, and the next one starts in a valid state.
use Rattle.std.proofs.Common.{◌≡◌, ℕ, suc, ◌<◌, ◌≤◌, ◌^◌, Option, Some, None, Result, Ok, Err, List, [], ◌∷◌, ◌++◌, length, drop, take, refl, sym, ap, ◌∙◌, subst, arith}
use Rattle.std.specs.Prelude.{slice_get}
use Rattle.std.proofs.lemmas.List.{take-append-drop}
use Rattle.std.proofs.lemmas.Option.{get_or_from_slice_get, slice_get_within}
use Rattle.ddc_base.specs.Limits.{most_steps}
use Rattle.guest_run.specs.Run.{End, first_end}
use Rattle.guest_run.specs.Start.{Refusal}
use Rattle.guest_run.specs.State.{GuestState}
use Rattle.guest_run.specs.Valid.{IsValid}
use Rattle.guest_run.proofs.StartLaw.{starts-valid}
use Rattle.guest_run.proofs.Starting.{starts_are}
use Rattle.recipe.specs.Kept.{IsRecipe}
use Rattle.recipe.specs.declared.contents.RecipeContents.{RecipeContents}
use Rattle.recipe.specs.declared.parts.Stage.{Stage}
use Rattle.audit_rules.specs.Contents.{box_of, program_of}
use Rattle.audit_rules.specs.Positions.{On, Position, at, enter, entered, forward, todo}
use Rattle.audit_rules.specs.Stages.{by_end, by_start, contents, stage_result, start_stage}
use Rattle.audit_rules.specs.Valid.{AreDone, IsAt, IsInputs, IsPosition, IsPhase}
use Rattle.audit_rules.specs.declared.answer.StageFault.{StageFault}
use Rattle.audit_rules.specs.declared.answer.Finished.{Finished}
use Rattle.audit_rules.proofs.Continues.{todo-next}
use Rattle.audit_rules.proofs.GivenBoxes.{box-is, content-is}
use Rattle.audit_rules.proofs.ValidPositions.{contents-are, done-more, enter-phase, forward-phase}
use Rattle.audit_rules.proofs.Rules.{IsStage, rules}
use Rattle.audit_rules.proofs.Slices.{end-step, slice-on}
use Rattle.audit_run.specs.Earlier.{done_in_order, unless_unfinished}

-- a position is at the stage that is next
at_stage : (recipe : RecipeContents) (p : Position) (stage : Stage) (stages : List Stage) → IsPosition recipe p → todo recipe p.done ≡ stage ∷ stages → IsAt recipe p stage stages
at_stage recipe p stage stages (other, rest, ok) left =
    subst (IsNext recipe p) (sym ok.left ∙ left) ok where
      IsNext : RecipeContents → Position → List Stage → Type 0
      IsNext recipe p [] = Unit {0}
      IsNext recipe p (s ∷ ss) = IsAt recipe p s ss

module _ (recipe : RecipeContents) (inputs : List (List ℕ)) (is : IsRecipe recipe) (given : IsInputs recipe inputs) where
  starts_fresh : (done : List Finished) (stage : Stage) (guest : GuestState) → start_stage recipe (contents inputs done) stage ≡ Ok guest → guest.steps ≡ 0
  starts_fresh done stage guest = starts_are (program_of recipe (contents inputs done) stage) (box_of recipe (contents inputs done) stage) guest

  -- one stage more
  module _ (done : List Finished) (stage : Stage) (stages : List Stage) (are : AreDone recipe done) (left : todo recipe done ≡ stage ∷ stages) where
    one_done : (f : Finished) → stage_result recipe inputs done stage ≡ Ok f → AreDone recipe (done ++ f ∷ [])
    one_done f made = by (start_stage recipe (contents inputs done) stage) refl made where
      ran : (guest : GuestState) → start_stage recipe (contents inputs done) stage ≡ Ok guest → (e : Option (End × GuestState)) → first_end guest stage.steps ≡ e
          → by_end recipe inputs done stage e ≡ Ok f → AreDone recipe (done ++ f ∷ [])
      ran guest begins None none made = absurd cc
      ran guest begins (Some (end, last)) ends made =
          let fresh : guest.steps ≡ 0 = starts_fresh done stage guest begins in
          let entry : IsPhase recipe (enter recipe inputs done (stage ∷ stages)) = enter-phase recipe (rules recipe is) inputs given done (stage ∷ stages) are left in
          let first : IsPosition recipe (at done guest) = subst (IsPhase recipe) (ap (entered done) begins) entry in
          let at_step = end-step guest stage.steps (end, last) ends in
          let reached : forward recipe inputs (at done guest) at_step.0 ≡ On (at done last) =
          slice-on recipe inputs done stage stages left guest last at_step.0 at_step.2 (omega (arith, fresh, at_step.1)) in
          let there : IsPosition recipe (at done last) = subst (IsPhase recipe) reached (forward-phase recipe (rules recipe is) inputs given (at done guest) first at_step.0) in
          done-more recipe (rules recipe is) inputs given (at done last) stage stages end f (at_stage recipe (at done last) stage stages there left) made

      by : (s : Result GuestState Refusal) → start_stage recipe (contents inputs done) stage ≡ s → by_start recipe inputs done stage s ≡ Ok f → AreDone recipe (done ++ f ∷ [])
      by (Err why) begins made = absurd cc
      by (Ok guest) begins made = ran guest begins (first_end guest stage.steps) refl made

  all_done : (stages rest : List Stage) (done out : List Finished) → AreDone recipe done → todo recipe done ≡ stages ++ rest → done_in_order recipe inputs done stages ≡ Ok out
      → AreDone recipe out
  all_done [] rest done out are left made = let same : done ≡ out = cc in subst (AreDone recipe) same are
  all_done (stage ∷ stages) rest done out are left made =
      by (λ d. all_done stages rest d out) (stage_result recipe inputs done stage) refl made where
        by : ((d : List Finished) → AreDone recipe d → todo recipe d ≡ stages ++ rest → done_in_order recipe inputs d stages ≡ Ok out → AreDone recipe out)
            → (r : Result Finished StageFault) → stage_result recipe inputs done stage ≡ r
            → unless_unfinished (suc (length done)) r (λ f. done_in_order recipe inputs (done ++ f ∷ []) stages) ≡ Ok out → AreDone recipe out
        by later (Err fault) was made = absurd cc
        by later (Ok f) was made =
            later (done ++ f ∷ []) (one_done done stage (stages ++ rest) are left f was) (todo-next recipe done f stage (stages ++ rest) left) made

  pub earlier_done : (count : ℕ) (out : List Finished) → done_in_order recipe inputs [] (take count recipe.stages) ≡ Ok out → AreDone recipe out
  earlier_done count out made =
      all_done (take count recipe.stages) (drop count recipe.stages) [] out (record { each = tt; small = omega arith }) (sym (take-append-drop count recipe.stages)) made

  -- the stage after them
  pub record StartsValid (stage : Stage) (guest : GuestState) : Type 0 where
    pub valid : IsValid guest
    pub fresh : guest.steps ≡ 0
    pub below : guest.steps < stage.steps
    pub few : stage.steps ≤ most_steps

  pub starts_valid : (done : List Finished) (stage : Stage) (guest : GuestState) → AreDone recipe done → slice_get recipe.stages (length done) ≡ Some stage
      → start_stage recipe (contents inputs done) stage ≡ Ok guest → StartsValid stage guest
  starts_valid done stage guest are there begins =
      let fits : IsStage stage = subst IsStage (get_or_from_slice_get recipe.stages (length done) stage stage there)
      ((rules recipe is).stages (length done) stage (slice_get_within recipe.stages (length done) stage there)) in
      let all = contents-are recipe (rules recipe is) inputs given done are in
      let starts = starts-valid (program_of recipe (contents inputs done) stage) (box_of recipe (contents inputs done) stage) guest
      (content-is recipe (contents inputs done) stage.program all).bytes (box-is recipe (contents inputs done) stage all fits) begins in
      let most = (is.stages (length done) stage there).few_steps in
      record { valid = starts.0; fresh = starts.1; below = omega (arith, starts.1, fits.some_steps); few = most }
