-- With which statuses plans end, whatever the files hold.
use Rattle.std.proofs.Common.{ℕ, ◌+◌, ◌-◌, Bool, true, false, cond, IsTrue, Option, None, Some, Result, Ok, Err, List, [], ◌∷◌, ◌++◌, length, min}
use Rattle.std.specs.FinMap as finite
use Rattle.ddc_base.specs.declared.outside.Loaded.{Loaded}
use Rattle.ddc_base.specs.declared.outside.Loaded.TheVariants.{Bytes, Absent, TooLong}
use Rattle.ddc_base.specs.Outside.{NamedFiles, loaded}
use Rattle.ddc_base.specs.Limits.{most_content, most_inputs, most_list, most_recipe, most_report}
use Rattle.prompt.specs.Talks.{Talk}
use Rattle.recipe.specs.Reading.{recipe_of}
use Rattle.recipe.specs.declared.contents.RecipeContents.{RecipeContents}
use Rattle.report.specs.Reading.{report_of}
use Rattle.report.specs.declared.types.CompareLine.{CompareLine}
use Rattle.report.specs.declared.types.Report.{Report}
use Rattle.audit_rules.specs.Bench.{all_equal}
use Rattle.audit_rules.specs.declared.answer.StageFault.{StageFault}
use Rattle.audit_rules.specs.declared.answer.StageFault.TheVariants.{Runs, Checks}
use Rattle.command_plan.specs.Lists.{list_of, needs_list}
use Rattle.command_plan.specs.Plan.{Plan, answers, follow, needs, needs_all, outcome, sets, talks, unless_refused}
use Rattle.command_plan.specs.Texts.{list_line, report_line, usage_line}
use Rattle.command_plan.specs.Words.{or_usage, usage}
use Rattle.command_plan.specs.declared.status.Status.{Status}
use Rattle.command_plan.specs.declared.status.Status.TheVariants.{CheckFailed, Differs, FileRefused, ListRefused, RecipeRefused, ReportRefused, RunFailed, Usage, Yes}
use Rattle.recipe_plan.specs.NotDone.{check_failed_line, run_failed_line, stage_name, unfinished}
use Rattle.recipe_plan.specs.Recipes.{is_input, needs_apart, needs_inputs_within, needs_inputs, needs_recipe, needs_recipe_after, paths, reads_recipe, reads_recipe_after}
use Rattle.recipe_plan.specs.Reports.{compared_status, needs_report, needs_report_after}
use Rattle.recipe_plan.specs.Texts.{recipe_line}

-- the status of the plan's outcome passes a test
pub record EndsAs (ok : Status → Bool) (plan : Plan) : Type 0 where
  pub ends : (files : NamedFiles) → IsTrue (ok (outcome plan files).status)

module _ (ok : Status → Bool) where
  pub says : (status : Status) (text : List ℕ) → IsTrue (ok status) → EndsAs ok (answers status text)
  says status text fits = record { ends = λ files. fits }

  pub converses : (talk : List ℕ → Talk) → IsTrue (ok Yes) → EndsAs ok (talks talk)
  converses talk fits = record { ends = λ files. fits }

  pub saves : (name content : List ℕ) (next : Plan) → EndsAs ok next → EndsAs ok (sets name content next)
  saves name content next after = record { ends = λ files. after.ends (finite.insert files name content) }

  pub either : (b : Bool) (first second : Plan) → EndsAs ok first → EndsAs ok second → EndsAs ok (cond b first second)
  either true first second is other = is
  either false first second is other = other

  pub reads : {A E : Type 0} (reading : Result A E) (refuse : E → Plan) (next : A → Plan) → ((why : E) → EndsAs ok (refuse why))
      → ((value : A) → EndsAs ok (next value)) → EndsAs ok (unless_refused reading refuse next)
  reads (Ok value) refuse next refused after = after value
  reads (Err why) refuse next refused after = refused why

  pub compares : (lines : List CompareLine) (text : List ℕ) → IsTrue (ok Yes) → IsTrue (ok Differs) → EndsAs ok (answers (compared_status lines) text)
  compares lines text equal_is differs = says (compared_status lines) text (by (all_equal lines)) where
    by : (b : Bool) → IsTrue (ok (cond b Yes Differs))
    by true = equal_is
    by false = differs

  pub stops : (recipe : RecipeContents) (number : ℕ) (fault : StageFault) → IsTrue (ok RunFailed) → IsTrue (ok CheckFailed) → EndsAs ok (unfinished recipe number fault)
  stops recipe number (Runs cause step) runs checks = says RunFailed (run_failed_line (stage_name recipe.stages number) cause step) runs
  stops recipe number (Checks cause) runs checks = says CheckFailed (check_failed_line (stage_name recipe.stages number) cause) checks

  module _ (usage_fits : IsTrue (ok Usage)) (absent_fits : IsTrue (ok FileRefused)) where
    pub misused : EndsAs ok usage
    misused = says Usage usage_line usage_fits

    pub worded : {A : Type 0} (parsed : Option A) (next : A → Plan) → ((value : A) → EndsAs ok (next value)) → EndsAs ok (or_usage parsed next)
    worded None next after = misused
    worded (Some value) next after = after value

    pub fits : (b : Bool) (next : Plan) → EndsAs ok next → EndsAs ok (cond b next usage)
    fits b next after = either b next usage after misused

    pub loads : (name : List ℕ) (limit : ℕ) (next : List ℕ → Plan) → ((content : List ℕ) → EndsAs ok (next content)) → EndsAs ok (needs name limit next)
    loads name limit next after = record { ends = λ files. by files (loaded files name limit) } where
      by : (files : NamedFiles) (l : Loaded)
          → IsTrue (ok (follow l (λ content. outcome (next content) files) (λ text. record { status = FileRefused; text = text; files = files }) name).status)
      by files (Bytes content) = (after content).ends files
      by files Absent = absent_fits
      by files TooLong = absent_fits

    pub loads_all : (most budget : ℕ) (names : List (List ℕ)) (next : List (List ℕ) → Plan) → ((contents : List (List ℕ)) → EndsAs ok (next contents))
        → EndsAs ok (needs_all most budget names next)
    loads_all most budget [] next after = after []
    loads_all most budget (name ∷ names) next after =
        loads name (min most budget) (λ content. needs_all most (budget - length content) names (λ contents. next (content ∷ contents)))
        (λ content. loads_all most (budget - length content) names (λ contents. next (content ∷ contents)) (λ contents. after (content ∷ contents)))

    -- ---- what the commands of a recipe begin with

    pub loads_recipe : (file : List ℕ) (next : RecipeContents → Plan) → IsTrue (ok RecipeRefused) → ((parsed : RecipeContents) → EndsAs ok (next parsed)) → EndsAs ok (needs_recipe file next)
    loads_recipe file next refused after =
        loads file most_recipe (λ bytes. reads_recipe bytes next) (λ bytes.
        reads (recipe_of bytes) (λ refusal. answers RecipeRefused (recipe_line refusal)) next (λ refusal. says RecipeRefused (recipe_line refusal) refused) after)

    pub loads_recipe_after : (leading file : List ℕ) (next : RecipeContents → Plan) → IsTrue (ok RecipeRefused) → ((parsed : RecipeContents) → EndsAs ok (next parsed))
        → EndsAs ok (needs_recipe_after leading file next)
    loads_recipe_after leading file next refused after =
        loads file most_recipe (λ bytes. reads_recipe_after leading bytes next) (λ bytes.
        reads (recipe_of bytes) (λ refusal. answers RecipeRefused (leading ++ recipe_line refusal)) next (λ refusal. says RecipeRefused (leading ++ recipe_line refusal) refused) after)

    pub apart : (recipe : RecipeContents) (file : List ℕ) (next : Unit {0} → Plan) → EndsAs ok (next tt) → EndsAs ok (needs_apart recipe file next)
    unfolding needs_apart
    apart recipe file next after = either (is_input recipe file) usage (next tt) misused after

    pub loads_inputs_within : (budget : ℕ) (recipe : RecipeContents) (next : List (List ℕ) → Plan) → ((inputs : List (List ℕ)) → EndsAs ok (next inputs))
        → EndsAs ok (needs_inputs_within budget recipe next)
    loads_inputs_within budget recipe next after = loads_all most_content budget (paths recipe) next after

    pub loads_inputs : (recipe : RecipeContents) (next : List (List ℕ) → Plan) → ((inputs : List (List ℕ)) → EndsAs ok (next inputs)) → EndsAs ok (needs_inputs recipe next)
    loads_inputs recipe next after = loads_inputs_within most_inputs recipe next after

    pub loads_report : (file : List ℕ) (next : Report → Plan) → IsTrue (ok ReportRefused) → ((made : Report) → EndsAs ok (next made)) → EndsAs ok (needs_report file next)
    loads_report file next refused after =
        loads file most_report (λ bytes. unless_refused (report_of bytes) (λ number. answers ReportRefused (report_line number)) next) (λ bytes.
        reads (report_of bytes) (λ number. answers ReportRefused (report_line number)) next (λ number. says ReportRefused (report_line number) refused) after)

    pub loads_report_after : (leading file : List ℕ) (next : Report → Plan) → IsTrue (ok ReportRefused) → ((made : Report) → EndsAs ok (next made))
        → EndsAs ok (needs_report_after leading file next)
    loads_report_after leading file next refused after =
        loads file most_report (λ bytes. unless_refused (report_of bytes) (λ number. answers ReportRefused (leading ++ report_line number)) next) (λ bytes.
        reads (report_of bytes) (λ number. answers ReportRefused (leading ++ report_line number)) next (λ number. says ReportRefused (leading ++ report_line number) refused) after)

    pub loads_list : {A : Type 0} (form : List A → List ℕ → Option A) (most : ℕ) (file : List ℕ) (next : List A → Plan) → IsTrue (ok ListRefused)
        → ((items : List A) → EndsAs ok (next items)) → EndsAs ok (needs_list form most file next)
    loads_list form most file next refused after =
        loads file most_list (λ text. unless_refused (list_of form most text) (λ number. answers ListRefused (list_line number)) next) (λ text.
        reads (list_of form most text) (λ number. answers ListRefused (list_line number)) next (λ number. says ListRefused (list_line number) refused) after)
