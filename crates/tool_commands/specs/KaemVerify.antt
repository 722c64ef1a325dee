-- `kaem-verify SCRIPT LIST REPORT`: judges every statement of a script's report by a replay of each command. docs/reference/command-line.md
-- and docs/reference/kaem.md say the same for people.
use Rattle.std.specs.Prelude.{ℕ, Option, None, Some, List, [], ◌∷◌, length, if◌then◌else◌}
use Rattle.ddc_base.specs.Limits.{most_report}
use Rattle.report.specs.Script.Reading.{script_report_of}
use Rattle.report.specs.declared.script.types.ScriptReport.{ScriptReport}
use Rattle.kaem_script.specs.declared.verdict.ScriptPart.{ScriptPart}
use Rattle.kaem_script.specs.Faults.{first_script_fault}
use Rattle.command_plan.specs.declared.status.Status.TheVariants.{Refuted, ReportRefused, Yes}
use Rattle.command_plan.specs.Plan.{Plan, answers, needs, unless_refused}
use Rattle.command_plan.specs.Texts.{report_line}
use Rattle.command_plan.specs.Words.{are_three_files, usage}
use Rattle.tool_commands.specs.Scripts.{needs_files, needs_script_and_list}
use Rattle.tool_commands.specs.ScriptTexts.{commands_true_line, script_refuted_line}

-- loads the report, of at most 1,073,741,824 bytes, and reads it
abbrev pub needs_script_report : List ℕ → (ScriptReport → Plan) → Plan
needs_script_report file next =
    needs file most_report (λ text. unless_refused (script_report_of text) (λ number. answers ReportRefused (report_line number)) next)

-- the answer for a report without a fault, of a script of so many commands, or for its first fault
abbrev pub script_verdict_plan : ℕ → Option (ScriptPart × ℕ) → Plan
script_verdict_plan commands None = answers Yes (commands_true_line commands)
script_verdict_plan commands (Some (part, place)) = answers Refuted (script_refuted_line part place)

-- loads the script, the list, the report and the files, and then judges the report
unfoldable pub kaem_verify_files : List ℕ → List ℕ → List ℕ → Plan
kaem_verify_files script list report =
    needs_script_and_list script list report (λ parsed words.
    needs_script_report report (λ made.
    needs_files words (λ listed. script_verdict_plan (length parsed.commands) (first_script_fault parsed listed made))))

-- the plan for the words after `kaem-verify`
abbrev pub kaem_verify_plan : List (List ℕ) → Plan
kaem_verify_plan (script ∷ list ∷ report ∷ []) = if are_three_files script list report then kaem_verify_files script list report else usage
kaem_verify_plan _ = usage
