-- What `verify` comes to over files that hold what it judges.
use Rattle.std.proofs.Common.{◌≡◌, ◌↔◌, ℕ, Bool, true, false, cond, Option, Some, None, List, refl, sym, ap, ◌∙◌, subst}
use Rattle.ddc_base.specs.Outside.{NamedFiles}
use Rattle.ddc_base.specs.Limits.{most_report}
use Rattle.recipe.specs.declared.contents.RecipeContents.{RecipeContents}
use Rattle.report.specs.declared.types.Report.{Report}
use Rattle.report.specs.Reading.{report_of}
use Rattle.audit_rules.specs.Bench.{all_equal}
use Rattle.verifier.specs.declared.part.Part.{Part}
use Rattle.verifier.specs.Faults.{first_fault}
use Rattle.command_plan.specs.declared.status.Status.{Status}
use Rattle.command_plan.specs.declared.status.Status.TheVariants.{Differs, Refuted, ReportRefused, Yes}
use Rattle.command_plan.specs.Plan.{Outcome, Plan, answers, outcome, unless_refused}
use Rattle.command_plan.specs.Texts.{report_line}
use Rattle.command_plan.specs.Words.{usage}
use Rattle.recipe_plan.specs.Recipes.{needs_apart, needs_inputs}
use Rattle.recipe_plan.specs.Reports.{needs_report}
use Rattle.verify_commands.specs.Verify.{judge_files, judged_report, verified, verify_files}
use Rattle.ddc_app.specs.Accepting.{verify}
use Rattle.ddc_app.specs.Judged.{HoldsReport}
use Rattle.ddc_app.proofs.Loads.{follows}
use Rattle.ddc_app.proofs.Openings.{Holds, apart_opens, inputs_open, recipe_opens}

module _ (recipe report : List ℕ) (files : NamedFiles) (parsed : RecipeContents) (inputs : List (List ℕ)) (made : Report) (h : HoldsReport recipe report files parsed inputs made) where
  -- its loads lead to the judgement
  pub judgement : verify recipe report files ≡ outcome (judged_report parsed made.compare (first_fault parsed inputs made)) files
  unfolding judge_files
  judgement =
      let holds : Holds recipe parsed inputs files = record { bytes = h.recipe_bytes; recipe_held = h.recipe_held; reads = h.recipe_reads; inputs_held = h.inputs_held } in
      let last : Report → Plan = λ m. needs_inputs parsed (λ i. verified parsed i m) in
      let refuse : ℕ → Plan = λ number. answers ReportRefused (report_line number) in
      ap (λ two. outcome (cond two (verify_files recipe report) usage) files) h.two
      ∙ recipe_opens recipe parsed inputs files holds (λ s. needs_apart s report (λ _. needs_report report (λ m. needs_inputs s (λ i. verified s i m))))
      ∙ apart_opens parsed report (λ _. needs_report report last) files false h.apart
      ∙ follows report most_report (λ text. unless_refused (report_of text) refuse last) files h.report_bytes h.report_held
      ∙ ap (λ reading. outcome (unless_refused reading refuse last) files) h.report_reads
      ∙ inputs_open recipe parsed inputs files holds (λ i. verified parsed i made)

  -- and that to a status: exactly where there is no fault it compares
  abbrev By : Option (Part × ℕ) → Status
  By fault = (outcome (judged_report parsed made.compare fault) files).status

  yes_by : (fault : Option (Part × ℕ)) → (By fault ≡ Yes) ↔ ((fault ≡ None) × (all_equal made.compare ≡ true))
  yes_by None = ((λ is. (refl, equal (all_equal made.compare) is)), (λ both. ap (λ b. cond b Yes Differs) both.1)) where
    equal : (b : Bool) → cond b Yes Differs ≡ Yes → b ≡ true
    equal true is = refl
    equal false is = absurd cc
  yes_by (Some (part, place)) = ((λ is. absurd cc), (λ both. let never = both.0 in absurd cc))

  differs_by : (fault : Option (Part × ℕ)) → (By fault ≡ Differs) ↔ ((fault ≡ None) × (all_equal made.compare ≡ false))
  differs_by None = ((λ is. (refl, differ (all_equal made.compare) is)), (λ both. ap (λ b. cond b Yes Differs) both.1)) where
    differ : (b : Bool) → cond b Yes Differs ≡ Differs → b ≡ false
    differ true is = absurd cc
    differ false is = refl
  differs_by (Some (part, place)) = ((λ is. absurd cc), (λ both. let never = both.0 in absurd cc))

  refuted_by : (fault : Option (Part × ℕ)) → (By fault ≡ Refuted) ↔ ((one : Part × ℕ) × (fault ≡ Some one))
  refuted_by None = ((λ is. absurd (never (all_equal made.compare) is)), (λ found. let none = found.1 in absurd cc)) where
    never : (b : Bool) → cond b Yes Differs ≡ Refuted → ⊥
    never true is = cc
    never false is = cc
  refuted_by (Some (part, place)) = ((λ is. ((part, place), refl)), (λ found. refl))

  status_is : (verify recipe report files).status ≡ By (first_fault parsed inputs made)
  status_is = ap (λ (o : Outcome). o.status) judgement

  pub says_yes : ((verify recipe report files).status ≡ Yes) ↔ ((first_fault parsed inputs made ≡ None) × (all_equal made.compare ≡ true))
  says_yes = subst (λ (s : Status). (s ≡ Yes) ↔ ((first_fault parsed inputs made ≡ None) × (all_equal made.compare ≡ true))) (sym status_is) (yes_by (first_fault parsed inputs made))

  pub says_differs : ((verify recipe report files).status ≡ Differs) ↔ ((first_fault parsed inputs made ≡ None) × (all_equal made.compare ≡ false))
  says_differs = subst (λ (s : Status). (s ≡ Differs) ↔ ((first_fault parsed inputs made ≡ None) × (all_equal made.compare ≡ false))) (sym status_is) (differs_by (first_fault parsed inputs made))

  pub says_refuted : ((verify recipe report files).status ≡ Refuted) ↔ ((one : Part × ℕ) × (first_fault parsed inputs made ≡ Some one))
  says_refuted = subst (λ (s : Status). (s ≡ Refuted) ↔ ((one : Part × ℕ) × (first_fault parsed inputs made ≡ Some one))) (sym status_is) (refuted_by (first_fault parsed inputs made))
