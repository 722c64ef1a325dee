-- `kaem SCRIPT LIST REPORT STEPS`: runs the commands of a script on listed files, each for at most STEPS steps, and saves the script's
-- report. docs/reference/command-line.md and docs/reference/kaem.md say the same for people.
use Rattle.std.specs.Prelude.{ℕ, List, [], ◌∷◌, length, sum_by, if◌then◌else◌}
use Rattle.report.specs.Script.Reports.{script_report_text}
use Rattle.kaem_script.specs.FilesListed.{FilesListed}
use Rattle.kaem_script.specs.Fold.{Folded, RanAll, Ran, Stopped, folded}
use Rattle.kaem_script.specs.Reported.{script_report}
use Rattle.kaem_script.specs.Script.{ScriptContents}
use Rattle.command_plan.specs.declared.status.Status.TheVariants.{RunFailed, Yes}
use Rattle.command_plan.specs.Plan.{Plan, answers, sets}
use Rattle.command_plan.specs.Words.{are_three_files, as_steps, or_usage, usage}
use Rattle.tool_commands.specs.Scripts.{needs_files, needs_script_and_list}
use Rattle.tool_commands.specs.ScriptTexts.{command_failed_line, done_line}

-- the steps of all commands together
abbrev pub steps_of_commands : List Ran → ℕ
steps_of_commands ran = sum_by (λ (one : Ran). one.steps) ran

-- saves the report if all commands ran; answers with the command that stopped the script otherwise
abbrev pub folded_plan : List ℕ → ScriptContents → FilesListed → Folded → Plan
folded_plan report parsed listed (RanAll ran world) =
    sets report (script_report_text (script_report parsed listed ran world)) (answers Yes (done_line (length ran) (steps_of_commands ran)))
folded_plan report parsed listed (Stopped number cause step) = answers RunFailed (command_failed_line number cause step)

-- loads the script, the list and the files, and then runs the commands
unfoldable pub kaem_files : List ℕ → List ℕ → List ℕ → ℕ → Plan
kaem_files script list report most =
    needs_script_and_list script list report (λ parsed words.
    needs_files words (λ listed. folded_plan report parsed listed (folded most listed.world parsed.commands)))

-- the plan for the words after `kaem`
abbrev pub kaem_plan : List (List ℕ) → Plan
kaem_plan (script ∷ list ∷ report ∷ steps ∷ []) =
    or_usage (as_steps steps) (λ most. if are_three_files script list report then kaem_files script list report most else usage)
kaem_plan _ = usage
