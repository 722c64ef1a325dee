-- `show REPORT`: prints the report, or its first invalid line. docs/reference/command-line.md says the same for people.
use Rattle.std.specs.Prelude.{ℕ, List, [], ◌∷◌, if◌then◌else◌}
use Rattle.report.specs.Reports.{report_text}
use Rattle.command_plan.specs.declared.status.Status.TheVariants.{Yes}
use Rattle.command_plan.specs.Words.{is_file_word, usage}
use Rattle.command_plan.specs.Plan.{Plan, answers}
use Rattle.recipe_plan.specs.Reports.{needs_report}

-- the plan of `show`: the report, and then its text
unfoldable pub show_file : List ℕ → Plan
show_file report = needs_report report (λ made. answers Yes (report_text made))

-- the plan of the words after `show`
abbrev pub show_plan : List (List ℕ) → Plan
show_plan (report ∷ []) = if is_file_word report then show_file report else usage
show_plan _ = usage
