-- The stage whose program is run, and its start.
use Rattle.std.proofs.Common.{◌≡◌, ◌+◌, ℕ, None, Some, Result, Ok, Err, List, length, refl, sym, ap, subst}
use Rattle.std.specs.Prelude.{slice_get}
use Rattle.guest_run.specs.Start.{ArgsTooLong, BoxTooLarge, Elf, Refusal}
use Rattle.guest_run.specs.State.{GuestState}
use Rattle.ddc_base.specs.Outside.{ShelfState}
use Rattle.recipe.specs.declared.contents.RecipeContents.{RecipeContents}
use Rattle.recipe.specs.declared.parts.Stage.{Stage}
use Rattle.audit_rules.specs.Stages.{contents, start_cause, start_stage}
use Rattle.audit_rules.specs.declared.answer.StageFault.TheVariants.{Runs}
use Rattle.audit_rules.specs.declared.answer.Finished.{Finished}
use Rattle.audit_rules.specs.declared.cause.RunCause.TheVariants as run
use Rattle.audit_rules.specs.declared.cause.StartCause.{StartCause}
use Rattle.audit_rules.specs.declared.cause.StartCause.TheVariants as start
use Rattle.audit_run.specs.Stage.Begins.{Begins}
use Rattle.command_plan.specs.declared.answer.Answer.{Answer}
use Rattle.command_plan.specs.declared.stop.Stop.{Stop}
use Rattle.command_plan.specs.Performs.{Performs}
use Rattle.command_plan.specs.Plan.{Plan}
use Rattle.command_plan.specs.Steps.{Says}
use Rattle.command_plan.specs.Words.{or_usage, usage}
use Rattle.command_plan.proofs.Performing.{says}
use Rattle.recipe_plan.specs.NotDone.{unfinished}
use Rattle.stage_commands.specs.Left.{ends_left, left_by, left_of_stage, run_left}

module _ (recipe : RecipeContents) (inputs : List (List ℕ)) (done : List Finished) (file out : List ℕ) where
  abbrev by_stage : Stage → Plan
  by_stage stage = left_by recipe (length done + 1) stage file out (start_stage recipe (contents inputs done) stage)

  pub no_stage_there : (shelf : ShelfState) (result : Result Answer Stop) → slice_get recipe.stages (length done) ≡ None → Says usage result → Performs (left_of_stage recipe inputs done file out) shelf shelf result
  unfolding left_of_stage
  no_stage_there shelf result none parsed = subst (λ (p : Plan). Performs p shelf shelf result) (sym (ap (λ f. or_usage f by_stage) none)) (says usage shelf result parsed)

  pub stage_there : (stage : Stage) (old new : ShelfState) (result : Result Answer Stop) → slice_get recipe.stages (length done) ≡ Some stage → Performs (by_stage stage) old new result
      → Performs (left_of_stage recipe inputs done file out) old new result
  unfolding left_of_stage
  stage_there stage old new result there performs = subst (λ (p : Plan). Performs p old new result) (sym (ap (λ f. or_usage f by_stage) there)) performs

meant_as : (meant : Result GuestState Refusal) (cause : StartCause) → Begins meant (Err cause) → (why : Refusal) × (meant ≡ Err why) × (start_cause why ≡ cause)
meant_as meant (start.Elf refusal) begins = (Elf refusal, begins, refl)
meant_as meant start.ArgsTooLong begins = (ArgsTooLong, begins, refl)
meant_as meant start.BoxTooLarge begins = (BoxTooLarge, begins, refl)

module _ (recipe : RecipeContents) (stage : Stage) (file out : List ℕ) (number : ℕ) (meant : Result GuestState Refusal) (result : Result Answer Stop) where
  pub starts : (guest : GuestState) (old new : ShelfState) → Begins meant (Ok guest) → Performs (ends_left stage.name file out (run_left guest stage.steps)) old new result → Performs (left_by recipe number stage file out meant) old new result
  starts guest old new begins performs = subst (λ (m : Result GuestState Refusal). Performs (left_by recipe number stage file out m) old new result) (sym begins) performs

  pub not_starts : (cause : StartCause) (shelf : ShelfState) → Begins meant (Err cause) → Says (unfinished recipe number (Runs (run.Start cause) 0)) result → Performs (left_by recipe number stage file out meant) shelf shelf result
  not_starts cause shelf begins parsed =
      let same = meant_as meant cause begins in
      subst (λ (m : Result GuestState Refusal). Performs (left_by recipe number stage file out m) shelf shelf result) (sym same.1)
      (subst (λ (c : StartCause). Performs (unfinished recipe number (Runs (run.Start c) 0)) shelf shelf result) (sym same.2) (says (unfinished recipe number (Runs (run.Start cause) 0)) shelf result parsed))
