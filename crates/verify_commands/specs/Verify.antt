-- `verify RECIPE REPORT` and `provenance RECIPE REPORT`: replays the stages of a recipe, and judges a report by them. Both are one plan and
-- differ only in the text for a true report. docs/reference/command-line.md, docs/reference/verify.md and docs/reference/provenance.md say
-- the same for people.
use Rattle.std.specs.Prelude.{ℕ, Option, Some, None, List, [], ◌∷◌, if◌then◌else◌}
use Rattle.recipe.specs.declared.contents.RecipeContents.{RecipeContents}
use Rattle.report.specs.declared.types.CompareLine.{CompareLine}
use Rattle.report.specs.declared.types.Report.{Report}
use Rattle.verifier.specs.declared.part.Part.{Part}
use Rattle.verifier.specs.Faults.{first_fault}
use Rattle.command_plan.specs.declared.status.Status.TheVariants.{Refuted}
use Rattle.command_plan.specs.Words.{are_two_files, usage}
use Rattle.command_plan.specs.Plan.{Plan, answers}
use Rattle.recipe_plan.specs.Recipes.{needs_apart, needs_inputs, needs_recipe}
use Rattle.recipe_plan.specs.Reports.{compared_status, needs_report}
use Rattle.verify_commands.specs.declared.explanation.Explanation.{Explanation}
use Rattle.verify_commands.specs.declared.explanation.Explanation.TheVariants.{Assumptions, Provenance}
use Rattle.verify_commands.specs.Provenance.{provenance_text}
use Rattle.verify_commands.specs.Texts.{refuted_line, true_text}

-- the text for a report without a fault: its comparisons with the assumptions, or with the dependencies of each artefact
abbrev pub explained : Explanation → RecipeContents → List (List ℕ) → Report → List ℕ
explained Assumptions recipe inputs report = true_text recipe report.compare
explained Provenance recipe inputs report = provenance_text recipe inputs report

-- a report without a fault is true and is answered with this text; for any other report the answer has the first false part
abbrev pub judged_with : List ℕ → List CompareLine → Option (Part × ℕ) → Plan
judged_with text lines None = answers (compared_status lines) text
judged_with text lines (Some (part, place)) = answers Refuted (refuted_line part place)

abbrev pub judged_by : Explanation → RecipeContents → List (List ℕ) → Report → Plan
judged_by explanation recipe inputs report = judged_with (explained explanation recipe inputs report) report.compare (first_fault recipe inputs report)

-- loads the recipe, checks that the report is not an input, loads the report and the inputs, and judges the report
unfoldable pub judge_files : Explanation → List ℕ → List ℕ → Plan
judge_files explanation recipe report =
    needs_recipe recipe (λ parsed.
    needs_apart parsed report (λ _.
    needs_report report (λ made.
    needs_inputs parsed (λ inputs.
    judged_by explanation parsed inputs made))))

-- the plan for the words after `verify`, and after `provenance`
abbrev pub judge_plan : Explanation → List (List ℕ) → Plan
judge_plan explanation (recipe ∷ report ∷ []) = if are_two_files recipe report then judge_files explanation recipe report else usage
judge_plan explanation _ = usage

abbrev pub verify_plan : List (List ℕ) → Plan
verify_plan words = judge_plan Assumptions words

abbrev pub provenance_plan : List (List ℕ) → Plan
provenance_plan words = judge_plan Provenance words

-- the answer of `verify`
abbrev pub judged_report : RecipeContents → List CompareLine → Option (Part × ℕ) → Plan
judged_report recipe lines fault = judged_with (true_text recipe lines) lines fault

abbrev pub verified : RecipeContents → List (List ℕ) → Report → Plan
verified recipe inputs report = judged_by Assumptions recipe inputs report

abbrev pub verify_files : List ℕ → List ℕ → Plan
verify_files recipe report = judge_files Assumptions recipe report
