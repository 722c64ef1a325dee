-- `audit RECIPE REPORT`: runs the stages of a recipe and saves the report. docs/reference/command-line.md and docs/reference/audit.md say
-- the same for people.
use Rattle.std.specs.Prelude.{ℕ, List, [], ◌∷◌, if◌then◌else◌}
use Rattle.recipe.specs.declared.contents.RecipeContents.{RecipeContents}
use Rattle.report.specs.Reports.{report_text}
use Rattle.report.specs.declared.types.Report.{Report}
use Rattle.audit_rules.specs.Bench.{bench}
use Rattle.audit_rules.specs.declared.answer.AuditAnswer.{AuditAnswer}
use Rattle.audit_rules.specs.declared.answer.AuditAnswer.TheVariants.{Completes, Fails}
use Rattle.command_plan.specs.Words.{are_two_files, usage}
use Rattle.command_plan.specs.Plan.{Plan, answers, sets}
use Rattle.recipe_plan.specs.Recipes.{needs_apart, needs_inputs, needs_recipe}
use Rattle.recipe_plan.specs.Reports.{compared_status}
use Rattle.recipe_plan.specs.Texts.{compared_lines}
use Rattle.recipe_plan.specs.NotDone.{unfinished}

-- the report is saved, and its comparisons are printed
unfoldable pub completed : List ℕ → Report → Plan
completed out report =
    sets out (report_text report) (answers (compared_status report.compare) (compared_lines report.compare))

-- the plan after an audit: its report is saved, or the stage that is not done is printed
abbrev pub audited : RecipeContents → List ℕ → AuditAnswer → Plan
audited recipe out (Completes report) = completed out report
audited recipe out (Fails number fault) = unfinished recipe number fault

-- the plan of `audit`: the recipe, a report that is not an input, the inputs, and then the audit
unfoldable pub audit_files : List ℕ → List ℕ → Plan
audit_files recipe report =
    needs_recipe recipe (λ parsed.
    needs_apart parsed report (λ _.
    needs_inputs parsed (λ inputs.
    audited parsed report (bench parsed inputs))))

-- the plan of the words after `audit`
abbrev pub audit_plan : List (List ℕ) → Plan
audit_plan (recipe ∷ report ∷ []) = if are_two_files recipe report then audit_files recipe report else usage
audit_plan _ = usage
