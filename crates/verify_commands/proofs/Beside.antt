-- The plans of `provenance` and `verify` differ in the text alone.
use Rattle.std.proofs.Common.{◌≡◌, ℕ, ◌-◌, Bool, true, false, if◌then◌else◌, Option, None, Some, Result, Ok, Err, List, [], ◌∷◌, length, min, refl}
use Rattle.ddc_base.specs.declared.outside.Loaded.{Loaded}
use Rattle.ddc_base.specs.declared.outside.Loaded.TheVariants.{Bytes, Absent, TooLong}
use Rattle.ddc_base.specs.Outside.{NamedFiles, loaded}
use Rattle.ddc_base.specs.Limits.{most_content, most_inputs, most_recipe, most_report}
use Rattle.recipe.specs.declared.contents.RecipeContents.{RecipeContents}
use Rattle.recipe.specs.Reading.{recipe_of}
use Rattle.report.specs.declared.types.Report.{Report}
use Rattle.report.specs.Reading.{report_of}
use Rattle.verifier.specs.declared.part.Part.{Part}
use Rattle.verifier.specs.Faults.{first_fault}
use Rattle.command_plan.specs.declared.status.Status.TheVariants.{FileRefused, RecipeRefused, ReportRefused}
use Rattle.command_plan.specs.Plan.{LoadsBytes, Outcome, Plan, answers, bytes_then, follow, needs, needs_all, outcome, unless_refused}
use Rattle.command_plan.specs.Texts.{report_line}
use Rattle.command_plan.specs.Words.{are_two_files, usage}
use Rattle.recipe_plan.specs.Recipes.{is_input, needs_apart, needs_inputs, paths}
use Rattle.recipe_plan.specs.Reports.{needs_report}
use Rattle.recipe_plan.specs.Texts.{recipe_line}
use Rattle.verify_commands.specs.declared.explanation.Explanation.TheVariants.{Assumptions, Provenance}
use Rattle.verify_commands.specs.Verify.{explained, judge_files, judged_with, judged_by, provenance_plan, verify_plan}

-- two plans return the same status, the former leaves the files as they are, and where its loads find bytes, those of the other do
pub record Beside (one other : Plan) (files : NamedFiles) : Type 0 where
  pub status : (outcome one files).status ≡ (outcome other files).status
  pub kept : (outcome one files).files ≡ files
  pub loads : LoadsBytes one files → LoadsBytes other files

module _ (files : NamedFiles) where
  load : (name : List ℕ) (limit : ℕ) (one other : List ℕ → Plan) → ((content : List ℕ) → Beside (one content) (other content) files)
      → Beside (needs name limit one) (needs name limit other) files
  load name limit one other each =
      record { status = (cases (loaded files name limit)).0; kept = (cases (loaded files name limit)).1; loads = find (loaded files name limit) } where
        refuse : List ℕ → Outcome
        refuse text = record { status = FileRefused; text = text; files = files }

        cases : (l : Loaded)
            → ((follow l (λ content. outcome (one content) files) refuse name).status ≡ (follow l (λ content. outcome (other content) files) refuse name).status)
            × ((follow l (λ content. outcome (one content) files) refuse name).files ≡ files)
        cases (Bytes content) = ((each content).status, (each content).kept)
        cases Absent = (refl, refl)
        cases TooLong = (refl, refl)

        find : (l : Loaded) → bytes_then l (λ content. LoadsBytes (one content) files) → bytes_then l (λ content. LoadsBytes (other content) files)
        find (Bytes content) = λ found. (found.0, (each content).loads found.1)
        find Absent = λ found. tt
        find TooLong = λ found. tt

  reading : {A E : Type 0} (r : Result A E) (refuse : E → Plan) (one other : A → Plan) → ((e : E) → Beside (refuse e) (refuse e) files)
      → ((a : A) → Beside (one a) (other a) files) → Beside (unless_refused r refuse one) (unless_refused r refuse other) files
  reading (Ok value) refuse one other stays each = each value
  reading (Err refusal) refuse one other stays each = stays refusal

  loads : (most budget : ℕ) (names : List (List ℕ)) (one other : List (List ℕ) → Plan) → ((contents : List (List ℕ)) → Beside (one contents) (other contents) files)
      → Beside (needs_all most budget names one) (needs_all most budget names other) files
  loads most budget [] one other each = each []
  loads most budget (name ∷ names) one other each =
      load name (min most budget) (λ content. needs_all most (budget - length content) names (λ contents. one (content ∷ contents)))
      (λ content. needs_all most (budget - length content) names (λ contents. other (content ∷ contents)))
      (λ content. loads most (budget - length content) names (λ contents. one (content ∷ contents)) (λ contents. other (content ∷ contents)) (λ contents. each (content ∷ contents)))

  told-beside : (parsed : RecipeContents) (inputs : List (List ℕ)) (made : Report) → Beside (judged_by Provenance parsed inputs made) (judged_by Assumptions parsed inputs made) files
  told-beside parsed inputs made = by (first_fault parsed inputs made) where
    by : (fault : Option (Part × ℕ)) → Beside (judged_with (explained Provenance parsed inputs made) made.compare fault) (judged_with (explained Assumptions parsed inputs made) made.compare fault) files
    by None = record { status = refl; kept = refl; loads = λ found. found }
    by (Some (part, place)) = record { status = refl; kept = refl; loads = λ found. found }

  after-apart : (parsed : RecipeContents) (report : List ℕ)
      → Beside (needs_apart parsed report (λ _. needs_report report (λ made. needs_inputs parsed (λ inputs. judged_by Provenance parsed inputs made))))
      (needs_apart parsed report (λ _. needs_report report (λ made. needs_inputs parsed (λ inputs. judged_by Assumptions parsed inputs made)))) files
  unfolding needs_apart
  after-apart parsed report = by (is_input parsed report) where
    one : Plan
    one = needs_report report (λ made. needs_inputs parsed (λ inputs. judged_by Provenance parsed inputs made))

    other : Plan
    other = needs_report report (λ made. needs_inputs parsed (λ inputs. judged_by Assumptions parsed inputs made))

    by : (b : Bool) → Beside (if b then usage else one) (if b then usage else other) files
    by true = record { status = refl; kept = refl; loads = λ found. found }
    by false =
        load report most_report
        (λ bytes. unless_refused (report_of bytes) (λ number. answers ReportRefused (report_line number)) (λ made. needs_inputs parsed (λ inputs. judged_by Provenance parsed inputs made)))
        (λ bytes. unless_refused (report_of bytes) (λ number. answers ReportRefused (report_line number)) (λ made. needs_inputs parsed (λ inputs. judged_by Assumptions parsed inputs made)))
        (λ bytes. reading (report_of bytes) (λ number. answers ReportRefused (report_line number)) (λ made. needs_inputs parsed (λ inputs. judged_by Provenance parsed inputs made))
        (λ made. needs_inputs parsed (λ inputs. judged_by Assumptions parsed inputs made)) (λ number. record { status = refl; kept = refl; loads = λ found. found })
        (λ made. loads most_content most_inputs (paths parsed) (λ inputs. judged_by Provenance parsed inputs made) (λ inputs. judged_by Assumptions parsed inputs made) (λ inputs. told-beside parsed inputs made)))

  files-beside : (recipe report : List ℕ) → Beside (judge_files Provenance recipe report) (judge_files Assumptions recipe report) files
  unfolding judge_files
  files-beside recipe report =
      load recipe most_recipe
      (λ bytes. unless_refused (recipe_of bytes) (λ refusal. answers RecipeRefused (recipe_line refusal))
      (λ parsed. needs_apart parsed report (λ _. needs_report report (λ made. needs_inputs parsed (λ inputs. judged_by Provenance parsed inputs made)))))
      (λ bytes. unless_refused (recipe_of bytes) (λ refusal. answers RecipeRefused (recipe_line refusal))
      (λ parsed. needs_apart parsed report (λ _. needs_report report (λ made. needs_inputs parsed (λ inputs. judged_by Assumptions parsed inputs made)))))
      (λ bytes. reading (recipe_of bytes) (λ refusal. answers RecipeRefused (recipe_line refusal))
      (λ parsed. needs_apart parsed report (λ _. needs_report report (λ made. needs_inputs parsed (λ inputs. judged_by Provenance parsed inputs made))))
      (λ parsed. needs_apart parsed report (λ _. needs_report report (λ made. needs_inputs parsed (λ inputs. judged_by Assumptions parsed inputs made))))
      (λ refusal. record { status = refl; kept = refl; loads = λ found. found }) (λ parsed. after-apart parsed report))

  by-words : (recipe report : List ℕ) (b : Bool) → Beside (if b then judge_files Provenance recipe report else usage) (if b then judge_files Assumptions recipe report else usage) files
  by-words recipe report true = files-beside recipe report
  by-words recipe report false = record { status = refl; kept = refl; loads = λ found. found }

pub judges-as : (words : List (List ℕ)) (files : NamedFiles) → Beside (provenance_plan words) (verify_plan words) files
judges-as (recipe ∷ report ∷ []) files = by-words files recipe report (are_two_files recipe report)
judges-as [] files = record { status = refl; kept = refl; loads = λ found. found }
judges-as (a ∷ []) files = record { status = refl; kept = refl; loads = λ found. found }
judges-as (a ∷ b ∷ c ∷ rest) files = record { status = refl; kept = refl; loads = λ found. found }
