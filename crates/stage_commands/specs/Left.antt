-- `left RECIPE STAGE FILE OUT`: runs a stage, however it ends, and saves what it left at FILE. docs/reference/command-line.md says the same
-- for people.
use Rattle.std.specs.Prelude.{ℕ, ◌+◌, Bool, ◌&&◌, Option, None, Some, Result, Ok, Err, List, [], ◌∷◌, codes, decimal, length, slice_get, unwrap_or, if◌then◌else◌}
use Rattle.ddc_base.specs.Lines.{line}
use Rattle.guest_run.specs.Run.{End, Exited, Trapped, UnknownCall, after, first_end}
use Rattle.guest_run.specs.Start.{Refusal}
use Rattle.guest_run.specs.State.{GuestState}
use Rattle.mem_files.specs.World.{World}
use Rattle.recipe.specs.declared.contents.RecipeContents.{RecipeContents}
use Rattle.recipe.specs.declared.parts.Stage.{Stage}
use Rattle.audit_rules.specs.Stages.{contents, start_cause, start_stage}
use Rattle.audit_rules.specs.declared.answer.StageFault.TheVariants.{Runs}
use Rattle.audit_rules.specs.declared.answer.Finished.{Finished}
use Rattle.audit_rules.specs.declared.cause.RunCause.{RunCause}
use Rattle.audit_rules.specs.declared.cause.RunCause.TheVariants as run
use Rattle.command_plan.specs.declared.status.Status.{Status}
use Rattle.command_plan.specs.declared.status.Status.TheVariants.{FileRefused, RunFailed, Yes}
use Rattle.command_plan.specs.Words.{are_two_files, has_no_zero_byte, or_usage, usage}
use Rattle.command_plan.specs.Plan.{Plan, answers, sets}
use Rattle.recipe_plan.specs.Recipes.{needs_apart, needs_inputs, needs_recipe}
use Rattle.recipe_plan.specs.NotDone.{run_cause_text, unfinished}
use Rattle.tool_commands.specs.GuestFiles.{bytes_left_at, is_left_word}
use Rattle.stage_commands.specs.Earlier.{needs_earlier, needs_stage}

-- ---- how a run ended, and the files then

-- a run's end: the cause in an audit's words, its step, and the files before that step
pub record RunLeft : Type 0 where
  pub cause : RunCause
  pub step : ℕ
  pub files : World

-- the cause of an end in an audit's words
abbrev pub cause_of : End → RunCause
cause_of (Exited status) = run.Status status
cause_of (Trapped cause) = run.Trap cause
cause_of (UnknownCall number) = run.Call number

-- the first exit, trap or unknown call within so many steps, or else the exhausted limit, with the files then
abbrev pub run_left_by : GuestState → ℕ → Option (End × GuestState) → RunLeft
run_left_by start most (Some (end, guest)) = record { cause = cause_of end; step = guest.steps + 1; files = guest.world }
run_left_by start most None = record { cause = run.Spent; step = most; files = (unwrap_or (after start most) start).world }

unfoldable pub run_left : GuestState → ℕ → RunLeft
run_left start most = run_left_by start most (first_end start most)

-- ---- the answers

-- an exit with any status is a yes; every other end is not
abbrev pub left_status : RunCause → Status
left_status (run.Status status) = Yes
left_status _ = RunFailed

abbrev pub absent_status : RunCause → Status
absent_status (run.Status status) = FileRefused
absent_status _ = RunFailed

-- how the run ended, where it left FILE, and where it did not
unfoldable pub file_left_line : List ℕ → List ℕ → ℕ → RunCause → ℕ → List ℕ
file_left_line stage file size cause step =
    line (codes "left" ∷ stage ∷ file ∷ decimal size ∷ run_cause_text cause ∷ codes "step" ∷ decimal step ∷ [])

unfoldable pub none_left_line : List ℕ → List ℕ → RunCause → ℕ → List ℕ
none_left_line stage file cause step =
    line (codes "not" ∷ codes "left" ∷ stage ∷ file ∷ run_cause_text cause ∷ codes "step" ∷ decimal step ∷ [])

-- saves what was left at FILE and answers with the end; where nothing was left, saves nothing
abbrev pub saved_left : List ℕ → List ℕ → List ℕ → RunLeft → Option (List ℕ) → Plan
saved_left stage file out end (Some content) = sets out content (answers (left_status end.cause) (file_left_line stage file (length content) end.cause end.step))
saved_left stage file out end None = answers (absent_status end.cause) (none_left_line stage file end.cause end.step)

unfoldable pub ends_left : List ℕ → List ℕ → List ℕ → RunLeft → Plan
ends_left stage file out end = saved_left stage file out end (bytes_left_at end.files file)

-- the stage's program runs to its end; a refused start is a run that failed at step 0
abbrev pub left_by : RecipeContents → ℕ → Stage → List ℕ → List ℕ → Result GuestState Refusal → Plan
left_by recipe number stage file out (Ok start) = ends_left stage.name file out (run_left start stage.steps)
left_by recipe number stage file out (Err why) = unfinished recipe number (Runs (run.Start (start_cause why)) 0)

-- runs the stage after the finished ones
unfoldable pub left_of_stage : RecipeContents → List (List ℕ) → List Finished → List ℕ → List ℕ → Plan
left_of_stage recipe inputs done file out =
    or_usage (slice_get recipe.stages (length done)) (λ stage. left_by recipe (length done + 1) stage file out (start_stage recipe (contents inputs done) stage))

-- loads the recipe, finds the stage, checks that OUT is not an input, loads the inputs, and runs the stages before that one and then the
-- stage
unfoldable pub left_files : List ℕ → List ℕ → List ℕ → List ℕ → Plan
left_files recipe stage file out =
    needs_recipe recipe (λ parsed.
    needs_stage parsed stage (λ count.
    needs_apart parsed out (λ _.
    needs_inputs parsed (λ inputs.
    needs_earlier parsed inputs count (λ done.
    left_of_stage parsed inputs done file out)))))

-- the words after `left`: RECIPE and OUT name two files, STAGE has no zero byte, and FILE is a guest's file or a stream
unfoldable pub are_left_words : List ℕ → List ℕ → List ℕ → List ℕ → Bool
are_left_words recipe stage file out = are_two_files recipe out && has_no_zero_byte stage && is_left_word file

abbrev pub left_plan : List (List ℕ) → Plan
left_plan (recipe ∷ stage ∷ file ∷ out ∷ []) = if are_left_words recipe stage file out then left_files recipe stage file out else usage
left_plan _ = usage
