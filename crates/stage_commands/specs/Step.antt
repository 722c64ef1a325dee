-- `step RECIPE STAGE`: runs the stages before STAGE, and then answers lines about its program. docs/reference/command-line.md and
-- docs/reference/step.md say the same for people.
use Rattle.std.specs.Prelude.{ℕ, suc, Bool, ◌&&◌, Result, Ok, Err, List, [], ◌∷◌, length, slice_get, if◌then◌else◌}
use Rattle.ddc_base.specs.Limits.{most_lines}
use Rattle.guest_run.specs.State.{GuestState}
use Rattle.guest_run.specs.Start.{Refusal}
use Rattle.prompt.specs.Talks.{talk}
use Rattle.recipe.specs.declared.contents.RecipeContents.{RecipeContents}
use Rattle.recipe.specs.declared.parts.Stage.{Stage}
use Rattle.step_debug.specs.Sessions.{SessionState, reply_to, session_start}
use Rattle.audit_rules.specs.Contents.{Contents, box_of, program_of}
use Rattle.audit_rules.specs.Stages.{contents, start_cause, start_stage}
use Rattle.audit_rules.specs.declared.answer.StageFault.TheVariants.{Runs}
use Rattle.audit_rules.specs.declared.answer.Finished.{Finished}
use Rattle.audit_rules.specs.declared.cause.RunCause.TheVariants.{Start}
use Rattle.audit_rules.specs.declared.cause.StartCause.{StartCause}
use Rattle.command_plan.specs.Words.{has_no_zero_byte, is_file_word, or_usage, usage}
use Rattle.command_plan.specs.Plan.{Plan, talks, unless_refused}
use Rattle.recipe_plan.specs.Recipes.{needs_inputs, needs_recipe}
use Rattle.recipe_plan.specs.NotDone.{unfinished}
use Rattle.stage_commands.specs.Earlier.{needs_earlier, needs_stage}

-- a session with a stage's program, if that starts
abbrev pub started_session : RecipeContents → Contents → Stage → Result GuestState Refusal → Result SessionState StartCause
started_session recipe so_far stage (Ok start) = Ok (session_start (program_of recipe so_far stage) (box_of recipe so_far stage) stage.steps start)
started_session recipe so_far stage (Err why) = Err (start_cause why)

abbrev pub session_of : RecipeContents → Contents → Stage → Result SessionState StartCause
session_of recipe so_far stage = started_session recipe so_far stage (start_stage recipe so_far stage)

-- starts the stage after the finished ones; a refused start is a run that failed at step 0
abbrev pub needs_session : RecipeContents → List (List ℕ) → List Finished → (SessionState → Plan) → Plan
needs_session recipe inputs done next =
    or_usage (slice_get recipe.stages (length done)) (λ stage.
    unless_refused (session_of recipe (contents inputs done) stage) (λ cause. unfinished recipe (suc (length done)) (Runs (Start cause) 0)) next)

-- loads the recipe, finds the stage, loads the inputs, runs the stages before that one and starts it; then answers at most 65,536 lines
unfoldable pub step_stage : List ℕ → List ℕ → Plan
step_stage recipe stage =
    needs_recipe recipe (λ parsed.
    needs_stage parsed stage (λ count.
    needs_inputs parsed (λ inputs.
    needs_earlier parsed inputs count (λ done.
    needs_session parsed inputs done (λ session.
    talks (talk reply_to session most_lines))))))

-- the words after `step`: RECIPE is a file name, and STAGE has no zero byte
abbrev pub are_step_words : List ℕ → List ℕ → Bool
are_step_words recipe stage = is_file_word recipe && has_no_zero_byte stage

abbrev pub step_plan : List (List ℕ) → Plan
step_plan (recipe ∷ stage ∷ []) = if are_step_words recipe stage then step_stage recipe stage else usage
step_plan _ = usage
