-- What is kept of a position is set, and its place is said.
use Rattle.std.proofs.Common.{◌≡◌, ℕ, ◌+◌, List, length, Option, Some, Result, Ok, Err, ap, sym, ◌∙◌, subst}
use Rattle.std.specs.Prelude.{IfOk}
use Rattle.ddc_base.specs.Outside.{ShelfState}
use Rattle.recipe.specs.declared.contents.RecipeContents.{RecipeContents}
use Rattle.audit_rules.specs.Positions.{Position, Phase, On}
use Rattle.audit_run.specs.Delta.Audits.{IsDeltaFrom}
use Rattle.audit_run.specs.Delta.Deltas.{IsBaseAt}
use Rattle.audit_run.specs.Saved.{IsSave}
use Rattle.audit_run.specs.Seen.{place_of}
use Rattle.command_plan.specs.declared.answer.Answer.{Answer}
use Rattle.command_plan.specs.declared.stop.Stop.{Stop}
use Rattle.command_plan.specs.declared.status.Status.TheVariants.{Paused}
use Rattle.command_plan.specs.Performs.{Performs}
use Rattle.command_plan.specs.Plan.{answers, sets}
use Rattle.audit_commands.specs.declared.going.Kept.{Kept}
use Rattle.audit_commands.specs.declared.going.Kept.TheVariants.{Whole, Relative}
use Rattle.audit_commands.specs.Inside.Keeping.{Keeps}
use Rattle.recipe_plan.specs.NotDone.{stage_name}
use Rattle.audit_commands.specs.Pause.{paused}
use Rattle.audit_commands.specs.PauseTexts.{paused_line}
use Rattle.std.specs.Borrow.{Bor}

-- what was written is what is kept
pub whole_is_kept : {E : Type 0} (recipe : RecipeContents) (inputs : List (List ℕ)) (current : Option Phase) (result : Result (List ℕ) E) → IfOk result (IsSave recipe inputs current)
    → (p : Position) (text : Position → List ℕ) → current ≡ Some (On p) → Keeps recipe inputs Whole text → IfOk result (λ bytes. bytes ≡ text p)
whole_is_kept recipe inputs current (Ok bytes) saved p text on keeps = subst (λ s. IsSave recipe inputs s bytes) on saved ∙ sym (keeps p)
whole_is_kept recipe inputs current (Err e) saved p text on keeps = tt

pub delta_is_kept : {E : Type 0} (recipe : RecipeContents) (inputs : List (List ℕ)) (current : Option Phase) (save : Bor (List ℕ)) (result : Result (List ℕ) E)
    → IfOk result (λ bytes. (b : Position) → IsBaseAt recipe inputs b save.now → IsDeltaFrom recipe inputs b current bytes)
    → (p : Position) (text : Position → List ℕ) → current ≡ Some (On p) → Keeps recipe inputs (Relative save) text → IfOk result (λ bytes. bytes ≡ text p)
delta_is_kept recipe inputs current save (Ok bytes) saved p text on keeps =
    subst (λ s. IsDeltaFrom recipe inputs keeps.0 s bytes) on (saved keeps.0 keeps.1) ∙ sym (keeps.2 p)
delta_is_kept recipe inputs current save (Err e) saved p text on keeps = tt

-- what is kept relative to a base is kept relative to the save of a position
pub base_of : (recipe : RecipeContents) (inputs : List (List ℕ)) (kept : Kept) (save : Bor (List ℕ)) → kept ≡ Relative save → (text : Position → List ℕ) × Keeps recipe inputs kept text
    → (b : Position) × IsBaseAt recipe inputs b save.now
base_of recipe inputs kept save is keeps = let k = subst (λ k. Keeps recipe inputs k keeps.0) is keeps.1 in (k.0, k.1)

pub sets_kept : (recipe : RecipeContents) (kept : Position → List ℕ) (name : List ℕ) (current : Option Phase) (old new : ShelfState) (result : Result Answer Stop) (text line : List ℕ) (place : ℕ × ℕ) (p : Position)
    → current ≡ Some (On p) → text ≡ kept p → place ≡ place_of current → line ≡ paused_line (stage_name recipe.stages place.0) place.1
    → Performs (sets name text (answers Paused line)) old new result → Performs (paused recipe kept name p) old new result
unfolding paused
sets_kept recipe kept name current old new result text line place p on kept_is placed answered performs =
    let place_is : place ≡ (length p.done + 1, p.at.steps) = placed ∙ ap place_of on in
    let line_is : line ≡ paused_line (stage_name recipe.stages (length p.done + 1)) p.at.steps =
    answered ∙ ap (λ (q : ℕ × ℕ). paused_line (stage_name recipe.stages q.0) q.1) place_is in
    subst (λ l. Performs (sets name (kept p) (answers Paused l)) old new result) line_is
    (subst (λ t. Performs (sets name t (answers Paused line)) old new result) kept_is performs)
