-- What an answer of `verify RECIPE REPORT` shows, under every meaning of sources. docs/reference/argument.md says the same for people.
use Rattle.std.specs.Prelude.{◌≡◌, ℕ, None, Some, Ok, List, All}
use Rattle.std.specs.List.{AllZip}
use Rattle.std.specs.FinMap as map
use Rattle.ddc_base.specs.Outside.{NamedFiles}
use Rattle.recipe.specs.declared.contents.RecipeContents.{RecipeContents}
use Rattle.recipe.specs.Kept.{IsRecipe}
use Rattle.recipe.specs.Reading.{recipe_of}
use Rattle.report.specs.declared.types.CompareLine.{CompareLine}
use Rattle.report.specs.declared.types.Report.{Report}
use Rattle.report.specs.Reading.{report_of}
use Rattle.audit_rules.specs.Valid.{IsInputs}
use Rattle.verifier.specs.Faults.{first_fault}
use Rattle.wheeler.specs.Concludes.{Concludes, ConcludesYes}
use Rattle.wheeler.specs.Follows.{HasCompared}
use Rattle.wheeler.specs.Meaning.{Compiles, Prescribes}
use Rattle.command_plan.specs.declared.status.Status.{Status}
use Rattle.command_plan.specs.declared.status.Status.TheVariants.{Yes, Differs}
use Rattle.command_plan.specs.Plan.{Outcome}
use Rattle.recipe_plan.specs.Recipes.{paths}
use Rattle.recipe_plan.specs.Reports.{compared_status}
use Rattle.verify_commands.specs.Texts.{true_text}

-- what a status shows of a recipe and its inputs, by a report with these compare lines
abbrev pub ShownBy : Prescribes → Compiles → RecipeContents → List (List ℕ) → List CompareLine → Status → Type 0
ShownBy prescribes compiles parsed inputs lines Yes = ConcludesYes prescribes compiles parsed inputs
ShownBy prescribes compiles parsed inputs lines Differs = Concludes prescribes compiles parsed inputs lines
ShownBy prescribes compiles parsed inputs lines _ = Unit {0}

-- The files hold a recipe that keeps its rules and has its compared stages, the contents of its inputs, within their limits, and a report
-- without a fault. The text has the report's comparisons and exactly the lines of its assumptions, in format 2 under each route. The status
-- shows the conclusions that belong to the comparisons
pub record Verified (prescribes : Prescribes) (compiles : Compiles) (recipe report : List ℕ) (files : NamedFiles) (answer : Outcome) : Type 0 where
  pub recipe_bytes : List ℕ
  pub recipe_held : map.get files recipe ≡ Some recipe_bytes
  pub parsed : RecipeContents
  pub recipe_reads : recipe_of recipe_bytes ≡ Ok parsed
  pub rules : IsRecipe parsed
  pub compared : All (HasCompared parsed) parsed.compare.stages
  pub inputs : List (List ℕ)
  pub inputs_held : AllZip (λ path content. map.get files path ≡ Some content) (paths parsed) inputs
  pub limits : IsInputs parsed inputs
  pub report_bytes : List ℕ
  pub report_held : map.get files report ≡ Some report_bytes
  pub made : Report
  pub report_reads : report_of report_bytes ≡ Ok made
  pub true_report : first_fault parsed inputs made ≡ None
  pub status : answer.status ≡ compared_status made.compare
  pub text : answer.text ≡ true_text parsed made.compare
  pub shown : ShownBy prescribes compiles parsed inputs made.compare answer.status
