-- What the demonstration's audit comes to, and its verdict.
use Rattle.std.proofs.Common.{◌≡◌, ◌∙◌, ℕ, Bool, true, false, Option, None, Result, Ok, Err, List, [], length, drop, take, le_refl, sym, ap, subst}
use Rattle.std.specs.Prelude.{if◌then◌else◌}
use Rattle.std.proofs.lemmas.List.{drop_all}
use Rattle.recipe.specs.declared.contents.RecipeContents.{RecipeContents}
use Rattle.report.specs.declared.types.Report.{Report}
use Rattle.audit_rules.specs.Bench.{all_equal, bench, bench_from, bench_report}
use Rattle.audit_rules.specs.declared.answer.AuditAnswer.{AuditAnswer as Outcome}
use Rattle.audit_rules.specs.declared.answer.AuditAnswer.TheVariants.{Completes, Fails}
use Rattle.audit_rules.specs.declared.answer.Finished.{Finished}
use Rattle.audit_run.specs.Earlier.{done_in_order, goes_on_after}
use Rattle.audit_run.specs.declared.earlier.Unfinished.{Unfinished}
use Rattle.verifier.specs.Verdicts.{Judges, verdict_of}
use Rattle.verifier.specs.declared.part.Part.{Part}
use Rattle.verifier.specs.declared.part.Verdict.{Verdict}
use Rattle.verifier.specs.declared.part.Verdict.TheVariants as verdict
use Rattle.command_plan.specs.declared.answer.Answer.{Answer}
use Rattle.command_plan.specs.declared.status.Status.TheVariants as status
use Rattle.command_plan.specs.declared.stop.Stop.{Stop}
use Rattle.command_plan.specs.Plan.{Plan, answers}
use Rattle.command_plan.specs.Steps.{Says}
use Rattle.recipe_plan.specs.Reports.{compared_status}
use Rattle.recipe_plan.specs.Texts.{compared_lines}
use Rattle.recipe_plan.specs.NotDone.{unfinished}
use Rattle.audit_commands.specs.Demo.{demo_compared, demo_inputs, demo_line, demonstrated, steps_of_all}

module _ (recipe : RecipeContents) (inputs : List (List ℕ)) (count : ℕ) (all : count ≡ length recipe.stages)
    (law : bench recipe inputs ≡ goes_on_after recipe inputs (drop count recipe.stages) (done_in_order recipe inputs [] (take count recipe.stages))) where
  -- all stages are done
  pub whole : (done : List Finished) → ◌≡◌ {A = Result (List Finished) Unfinished} (Ok done) (done_in_order recipe inputs [] (take count recipe.stages))
      → bench recipe inputs ≡ Completes (bench_report recipe inputs done)
  whole done is =
      let none : drop count recipe.stages ≡ [] = ap (λ n. drop n recipe.stages) all ∙ drop_all (length recipe.stages) recipe.stages (le_refl (length recipe.stages)) in
      law ∙ ap (goes_on_after recipe inputs (drop count recipe.stages)) (sym is) ∙ ap (bench_from recipe inputs done) none

  -- one is not
  pub stopped : (not_done : Unfinished) → ◌≡◌ {A = Result (List Finished) Unfinished} (Err not_done) (done_in_order recipe inputs [] (take count recipe.stages))
      → bench recipe inputs ≡ Fails not_done.stage not_done.fault
  stopped not_done is = law ∙ ap (goes_on_after recipe inputs (drop count recipe.stages)) (sym is)

pub says_completed : (size : ℕ) (recipe : RecipeContents) (outcome : Outcome) (report : Report) (result : Result Answer Stop) → outcome ≡ Completes report
    → Says (demo_compared size report) result → Says (demonstrated size recipe outcome) result
says_completed size recipe outcome report result is answered = subst (λ o. Says (demonstrated size recipe o) result) (sym is) answered

pub says_stopped : (size : ℕ) (recipe : RecipeContents) (outcome : Outcome) (not_done : Unfinished) (result : Result Answer Stop) → outcome ≡ Fails not_done.stage not_done.fault
    → Says (unfinished recipe not_done.stage not_done.fault) result → Says (demonstrated size recipe outcome) result
says_stopped size recipe outcome not_done result is answered = subst (λ o. Says (demonstrated size recipe o) result) (sym is) answered

-- files that are borrowed are the files
pub of_files : (size : ℕ) (recipe : RecipeContents) (borrowed program held source made : List ℕ) (result : Result Answer Stop) → borrowed ≡ program → held ≡ source
    → Says (demonstrated size recipe (bench recipe (demo_inputs recipe borrowed held made))) result → Says (demonstrated size recipe (bench recipe (demo_inputs recipe program source made))) result
of_files size recipe borrowed program held source made result same alike answered =
    subst (λ bytes. Says (demonstrated size recipe (bench recipe (demo_inputs recipe program bytes made))) result) alike
    (subst (λ bytes. Says (demonstrated size recipe (bench recipe (demo_inputs recipe bytes held made))) result) same answered)

-- ---- a report that is true

module _ (size : ℕ) (report : Report) (fault : Option (Part × ℕ)) (none : fault ≡ None) where
  -- what the verdict on it is, by whether all are equal
  abbrev verdict_by : Bool → Verdict
  verdict_by equal = if equal then verdict.Yes else verdict.TrueButDiffers

  abbrev compared_by : Bool → Plan
  compared_by equal =
      if equal then answers status.Yes (demo_line size (steps_of_all report)) else answers status.Differs (compared_lines report.compare)

  judged : (answer : Verdict) → answer ≡ verdict_of fault report.compare → answer ≡ verdict_by (all_equal report.compare)
  judged answer is = is ∙ ap (λ f. verdict_of f report.compare) none

  by_equal : (equal : Bool) (result : Result Answer Stop) → verdict.Yes ≡ verdict_by equal → Says (answers status.Yes (demo_line size (steps_of_all report))) result
      → Says (compared_by equal) result
  by_equal true result is answered = answered
  by_equal false result is answered = absurd cc

  pub yes : (result : Result Answer Stop) → Judges fault report.compare verdict.Yes → Says (answers status.Yes (demo_line size (steps_of_all report))) result
      → Says (demo_compared size report) result
  unfolding demo_compared
  yes result is answered = by_equal (all_equal report.compare) result (judged verdict.Yes is) answered

  by_differs : (equal : Bool) (answer : Answer) → verdict.TrueButDiffers ≡ verdict_by equal → answer.status ≡ (if equal then status.Yes else status.Differs)
      → answer.text ≡ compared_lines report.compare → Says (compared_by equal) (Ok answer)
  by_differs true answer is told answered = absurd cc
  by_differs false answer is told answered = record { by_result = λ i. answers (sym told i) (sym answered i) }

  pub differs : (answer : Answer) → Judges fault report.compare verdict.TrueButDiffers → answer.status ≡ compared_status report.compare
      → answer.text ≡ compared_lines report.compare → Says (demo_compared size report) (Ok answer)
  unfolding demo_compared
  differs answer is told answered = by_differs (all_equal report.compare) answer (judged verdict.TrueButDiffers is) told answered

  by_refuted : (equal : Bool) (part : Part) (place : ℕ) → verdict.Refuted part place ≡ verdict_by equal → ⊥
  by_refuted true part place is = cc
  by_refuted false part place is = cc

  pub never_refuted : (part : Part) (place : ℕ) → Judges fault report.compare (verdict.Refuted part place) → ⊥
  never_refuted part place is = by_refuted (all_equal report.compare) part place (judged (verdict.Refuted part place) is)
