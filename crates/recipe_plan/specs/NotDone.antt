-- A stage that is not done: the texts of causes, the printed lines, and the answers. docs/reference/command-line.md says the same for people.
use Rattle.std.specs.Prelude.{ℕ, ◌-◌, List, [], ◌∷◌, codes, decimal, slice_get, unwrap_or}
use Rattle.std.specs.Option.{option_map}
use Rattle.ddc_base.specs.Lines.{line}
use Rattle.command_plan.specs.Causes.Texts.{spaced, trap_text, call_text, elf_text, args_text, box_text, spent_text, status_text}
use Rattle.command_plan.specs.Plan.{Plan, answers}
use Rattle.command_plan.specs.declared.status.Status.TheVariants.{RunFailed, CheckFailed}
use Rattle.recipe.specs.declared.contents.RecipeContents.{RecipeContents}
use Rattle.recipe.specs.declared.parts.Stage.{Stage}
use Rattle.audit_rules.specs.declared.answer.StageFault.{StageFault}
use Rattle.audit_rules.specs.declared.answer.StageFault.TheVariants.{Runs, Checks}
use Rattle.audit_rules.specs.SourceCheck.Causes.{hex_cause_number, hex_cause_place, m1_cause_number, m1_cause_place}
use Rattle.audit_rules.specs.declared.source_check.cause.CheckCause.{CheckCause}
use Rattle.audit_rules.specs.declared.source_check.cause.CheckCause.TheVariants as check
use Rattle.audit_rules.specs.declared.cause.RunCause.{RunCause}
use Rattle.audit_rules.specs.declared.cause.RunCause.TheVariants as run
use Rattle.audit_rules.specs.declared.cause.StartCause.{StartCause}
use Rattle.audit_rules.specs.declared.cause.StartCause.TheVariants as start

-- the text of a start that failed, and of a run that made no artefact
abbrev pub start_cause_text : StartCause → List ℕ
start_cause_text (start.Elf refusal) = elf_text refusal
start_cause_text start.ArgsTooLong = args_text
start_cause_text start.BoxTooLarge = box_text

abbrev pub run_cause_text : RunCause → List ℕ
run_cause_text (run.Start cause) = start_cause_text cause
run_cause_text (run.Trap cause) = trap_text cause
run_cause_text (run.Call number) = call_text number
run_cause_text (run.Status status) = status_text status
run_cause_text run.NoOutput = codes "no-output"
run_cause_text run.Spent = spent_text
run_cause_text run.Crowded = codes "crowded"

-- the text of an artefact that is not what its source stands for
abbrev pub check_cause_text : CheckCause → List ℕ
check_cause_text (check.Hex cause) = spaced (codes "hex" ∷ decimal (hex_cause_number cause) ∷ decimal (hex_cause_place cause) ∷ [])
check_cause_text (check.M1 cause) = spaced (codes "m1" ∷ decimal (m1_cause_number cause) ∷ decimal (m1_cause_place cause) ∷ [])
check_cause_text (check.NotItems cause) = spaced (codes "items" ∷ decimal (hex_cause_number cause) ∷ decimal (hex_cause_place cause) ∷ [])
check_cause_text (check.Differs offset) = spaced (codes "differs" ∷ decimal offset ∷ [])

-- the name of the stage of this number, from 1
unfoldable pub stage_name : List Stage → ℕ → List ℕ
stage_name stages number = unwrap_or (option_map (λ (stage : Stage). stage.name) (slice_get stages (number - 1))) []

-- the line about a stage that made no artefact, and about one whose artefact is not what its source stands for
unfoldable pub run_failed_line : List ℕ → RunCause → ℕ → List ℕ
run_failed_line stage cause step =
    line (codes "run" ∷ codes "failed" ∷ stage ∷ run_cause_text cause ∷ codes "step" ∷ decimal step ∷ [])

unfoldable pub check_failed_line : List ℕ → CheckCause → List ℕ
check_failed_line stage cause = line (codes "check" ∷ codes "failed" ∷ stage ∷ check_cause_text cause ∷ [])

-- the answer about a stage that is not done, by its name; nothing is saved
abbrev pub unfinished : RecipeContents → ℕ → StageFault → Plan
unfinished recipe number (Runs cause step) = answers RunFailed (run_failed_line (stage_name recipe.stages number) cause step)
unfinished recipe number (Checks cause) = answers CheckFailed (check_failed_line (stage_name recipe.stages number) cause)
