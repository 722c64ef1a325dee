-- The steps of `step` that touch no shelf, and words that are no command line.
use Rattle.std.proofs.Common.{◌≡◌, ◌∙◌, ℕ, suc, Option, Some, None, Result, Ok, Err, List, length, sym, ap, subst}
use Rattle.std.specs.Prelude.{slice_get, take, ◌<◌, ◌+◌, ◌^◌}
use Rattle.std.proofs.Common.{arith}
use Rattle.std.proofs.lemmas.Option.{slice_get_within}
use Rattle.recipe.specs.Kept.{IsRecipe}
use Rattle.audit_run.specs.Stage.Rules.{IsStageOf}
use Rattle.ddc_base.specs.declared.outside.PutFail.{PutFail}
use Rattle.ddc_base.specs.Outside.{ShelfState}
use Rattle.recipe.specs.declared.contents.RecipeContents.{RecipeContents}
use Rattle.recipe.specs.declared.parts.Stage.{Stage}
use Rattle.step_debug.specs.Sessions.{SessionState}
use Rattle.audit_rules.specs.Stages.{contents}
use Rattle.audit_rules.specs.declared.answer.StageFault.TheVariants.{Runs}
use Rattle.audit_rules.specs.declared.answer.Finished.{Finished}
use Rattle.audit_rules.specs.declared.cause.RunCause.TheVariants as run
use Rattle.audit_rules.specs.declared.cause.StartCause.{StartCause}
use Rattle.command_plan.specs.declared.answer.Answer.{Answer}
use Rattle.command_plan.specs.declared.stop.Stop.{Stop}
use Rattle.command_plan.specs.declared.stop.Stop.TheVariants as stop
use Rattle.command_plan.specs.Plan.{Plan, unless_refused}
use Rattle.command_plan.specs.Performs.{OutsideState, PerformsTalk}
use Rattle.command_plan.specs.Steps.{Obtains, Says}
use Rattle.command_plan.specs.Words.{or_usage, usage}
use Rattle.command_plan.proofs.Obtaining.{answers_at_once, leads}
use Rattle.recipe_plan.specs.NotDone.{unfinished}
use Rattle.stage_commands.specs.Step.{needs_session, session_of}

-- a stage of a recipe
pub stage_in_range : (recipe : RecipeContents) (index : ℕ) (stage : Stage) → IsRecipe recipe → slice_get recipe.stages index ≡ Some stage → index + 1 < 2 ^ 32
stage_in_range recipe index stage kept there = let inside = slice_get_within recipe.stages index stage there in omega (arith, inside, kept.few_stages)

pub stage_rules : (recipe : RecipeContents) (index : ℕ) (stage : Stage) → IsRecipe recipe → slice_get recipe.stages index ≡ Some stage → IsStageOf recipe stage
stage_rules recipe index stage kept there = (take index recipe.stages, kept.stages index stage there)

-- what words say, or that they say nothing
module _ {A : Type 0} (found : Option A) (shelf : ShelfState) where
  pub named : (value : A) → found ≡ Some value → Obtains (or_usage found) shelf shelf (Ok value)
  named value is = leads (or_usage found) shelf value (λ next. ap (λ f. or_usage f next) is)

  pub unnamed : (answer : Answer) → found ≡ None → Says usage (Ok answer) → Obtains (or_usage found) shelf shelf (Err (stop.Answered answer))
  unnamed answer none parsed = answers_at_once (or_usage found) shelf answer (λ next. ap (λ f. or_usage f next) none ∙ parsed.by_result)

module _ (recipe : RecipeContents) (inputs : List (List ℕ)) (done : List Finished) (shelf : ShelfState) where
  -- what follows a stage
  abbrev following : (SessionState → Plan) → Stage → Plan
  following next stage = unless_refused (session_of recipe (contents inputs done) stage) (λ cause. unfinished recipe (suc (length done)) (Runs (run.Start cause) 0)) next

  pub no-stage-left : (answer : Answer) → slice_get recipe.stages (length done) ≡ None → Says usage (Ok answer)
      → Obtains (needs_session recipe inputs done) shelf shelf (Err (stop.Answered answer))
  no-stage-left answer none parsed =
      answers_at_once (needs_session recipe inputs done) shelf answer (λ next. ap (λ f. or_usage f (following next)) none ∙ parsed.by_result)

  module _ (stage : Stage) (there : slice_get recipe.stages (length done) ≡ Some stage) where
    pub started : (session : SessionState) → Ok session ≡ session_of recipe (contents inputs done) stage → Obtains (needs_session recipe inputs done) shelf shelf (Ok session)
    started session is =
        leads (needs_session recipe inputs done) shelf session
        (λ next. ap (λ f. or_usage f (following next)) there
        ∙ ap (λ m. unless_refused m (λ cause. unfinished recipe (suc (length done)) (Runs (run.Start cause) 0)) next) (sym is))

    pub not_started : (cause : StartCause) (number : ℕ) (answer : Answer) → ◌≡◌ {A = Result SessionState StartCause} (Err cause) (session_of recipe (contents inputs done) stage)
        → number ≡ suc (length done) → Says (unfinished recipe number (Runs (run.Start cause) 0)) (Ok answer)
        → Obtains (needs_session recipe inputs done) shelf shelf (Err (stop.Answered answer))
    not_started cause number answer is same parsed =
        answers_at_once (needs_session recipe inputs done) shelf answer
        (λ next. ap (λ f. or_usage f (following next)) there
        ∙ ap (λ m. unless_refused m (λ why. unfinished recipe (suc (length done)) (Runs (run.Start why) 0)) next) (sym is)
        ∙ ap (λ n. unfinished recipe n (Runs (run.Start cause) 0)) (sym same)
        ∙ parsed.by_result)

-- what a plan leaves is what the same plan leaves
pub of_same_plan : {plan other : Plan} {before after : OutsideState} {result : Result (Result (Unit {0}) PutFail) Stop}
    → plan ≡ other → PerformsTalk other before after result → PerformsTalk plan before after result
of_same_plan {before = before} {after} {result} is held = subst (λ p. PerformsTalk p before after result) (sym is) held
