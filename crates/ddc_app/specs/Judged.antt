-- Files on which `verify RECIPE REPORT` judges a report. docs/reference/verify.md says the same for people.
use Rattle.std.specs.Prelude.{◌≡◌, ℕ, IsTrue, false, Ok, List}
use Rattle.ddc_base.specs.declared.outside.Loaded.TheVariants.{Bytes}
use Rattle.ddc_base.specs.Outside.{NamedFiles, loaded}
use Rattle.ddc_base.specs.Limits.{most_content, most_inputs, most_recipe, most_report}
use Rattle.recipe.specs.declared.contents.RecipeContents.{RecipeContents}
use Rattle.recipe.specs.Reading.{recipe_of}
use Rattle.report.specs.declared.types.Report.{Report}
use Rattle.report.specs.Reading.{report_of}
use Rattle.command_plan.specs.Words.{are_two_files}
use Rattle.recipe_plan.specs.Recipes.{is_input, paths}
use Rattle.ddc_app.specs.Holding.{AreHeld}

-- Two words name two files. The files hold a valid recipe, whose inputs do not include the report, a valid report, and the contents of the
-- recipe's inputs, within their limits; `parsed`, `inputs` and `made` are these contents
pub record HoldsReport (recipe report : List ℕ) (files : NamedFiles) (parsed : RecipeContents) (inputs : List (List ℕ)) (made : Report) : Type 0 where
  pub two : IsTrue (are_two_files recipe report)
  pub recipe_bytes : List ℕ
  pub recipe_held : loaded files recipe most_recipe ≡ Bytes recipe_bytes
  pub recipe_reads : recipe_of recipe_bytes ≡ Ok parsed
  pub apart : is_input parsed report ≡ false
  pub report_bytes : List ℕ
  pub report_held : loaded files report most_report ≡ Bytes report_bytes
  pub report_reads : report_of report_bytes ≡ Ok made
  pub inputs_held : AreHeld most_content most_inputs files (paths parsed) inputs
