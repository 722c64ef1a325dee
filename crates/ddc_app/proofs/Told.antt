-- What `provenance` returns over files that hold what it judges.
use Rattle.std.proofs.Common.{◌≡◌, ℕ, ◌-◌, false, cond, None, Some, List, [], ◌∷◌, length, min, refl, sym, ap, ap₂, ◌∙◌, subst}
use Rattle.std.specs.Prelude.{IsTrue}
use Rattle.std.specs.FinMap as finite
use Rattle.std.specs.List.{AllZip}
use Rattle.std.proofs.lemmas.Option.{same_Some}
use Rattle.ddc_base.specs.Outside.{NamedFiles}
use Rattle.ddc_base.specs.Limits.{most_content, most_inputs, most_recipe, most_report}
use Rattle.recipe.specs.declared.contents.RecipeContents.{RecipeContents}
use Rattle.recipe.specs.Reading.{recipe_of}
use Rattle.report.specs.declared.types.Report.{Report}
use Rattle.report.specs.Reading.{report_of}
use Rattle.verifier.specs.Faults.{first_fault}
use Rattle.command_plan.specs.declared.status.Status.TheVariants.{ReportRefused}
use Rattle.command_plan.specs.Plan.{Outcome, Plan, answers, outcome, unless_refused}
use Rattle.command_plan.specs.Texts.{report_line}
use Rattle.command_plan.specs.Words.{usage}
use Rattle.recipe_plan.specs.Recipes.{needs_apart, needs_inputs, paths}
use Rattle.recipe_plan.specs.Reports.{compared_status, needs_report}
use Rattle.verify_commands.specs.declared.explanation.Explanation.TheVariants.{Provenance}
use Rattle.verify_commands.specs.Provenance.{provenance_text}
use Rattle.verify_commands.specs.Verify.{judge_files, judged_with, judged_by, provenance_plan, verify_plan}
use Rattle.wheeler.specs.Meaning.{Compiles, Prescribes}
use Rattle.ddc_app.specs.Accepting.{is_compared, provenance, verify}
use Rattle.ddc_app.specs.Accounted.{Accounted}
use Rattle.ddc_app.specs.Holding.{AreHeld}
use Rattle.ddc_app.specs.Judged.{HoldsReport}
use Rattle.ddc_app.specs.Verified.{Verified}
use Rattle.ddc_app.proofs.Loads.{follows, within}
use Rattle.ddc_app.proofs.Openings.{Holds, apart_opens, inputs_open, recipe_opens}
use Rattle.ddc_app.proofs.TrueWritten.{replay, replay-held}

module _ (recipe report : List ℕ) (files : NamedFiles) (parsed : RecipeContents) (inputs : List (List ℕ)) (made : Report) (h : HoldsReport recipe report files parsed inputs made) where
  pub telling : outcome (provenance_plan (recipe ∷ report ∷ [])) files ≡ outcome (judged_with (provenance_text parsed inputs made) made.compare (first_fault parsed inputs made)) files
  unfolding judge_files
  telling =
      let holds : Holds recipe parsed inputs files = record { bytes = h.recipe_bytes; recipe_held = h.recipe_held; reads = h.recipe_reads; inputs_held = h.inputs_held } in
      let last : Report → Plan = λ m. needs_inputs parsed (λ i. judged_by Provenance parsed i m) in
      let refuse : ℕ → Plan = λ number. answers ReportRefused (report_line number) in
      ap (λ two. outcome (cond two (judge_files Provenance recipe report) usage) files) h.two
      ∙ recipe_opens recipe parsed inputs files holds (λ s. needs_apart s report (λ _. needs_report report (λ m. needs_inputs s (λ i. judged_by Provenance s i m))))
      ∙ apart_opens parsed report (λ _. needs_report report last) files false h.apart
      ∙ follows report most_report (λ text. unless_refused (report_of text) refuse last) files h.report_bytes h.report_held
      ∙ ap (λ reading. outcome (unless_refused reading refuse last) files) h.report_reads
      ∙ inputs_open recipe parsed inputs files holds (λ i. judged_by Provenance parsed i made)

  pub true-told : first_fault parsed inputs made ≡ None
      → outcome (provenance_plan (recipe ∷ report ∷ [])) files ≡ record { status = compared_status made.compare; text = provenance_text parsed inputs made; files = files }
  true-told none = telling ∙ ap (λ fault. outcome (judged_with (provenance_text parsed inputs made) made.compare fault) files) none

-- ---- what an answer shows

-- names have one content each
one-content : (most budget : ℕ) (files : NamedFiles) (names contents others : List (List ℕ)) → AreHeld most budget files names contents
    → AllZip (λ name content. finite.get files name ≡ Some content) names others → contents ≡ others
one-content most budget files [] [] [] held zip = refl
one-content most budget files [] [] (other ∷ others) held zip = absurd zip
one-content most budget files [] (content ∷ contents) others held zip = absurd held
one-content most budget files (name ∷ names) [] others held zip = absurd held
one-content most budget files (name ∷ names) (content ∷ contents) [] held zip = absurd zip
one-content most budget files (name ∷ names) (content ∷ contents) (other ∷ others) held zip =
    let got = (within (min most budget) (finite.get files name) content held.0).0 in
    ap₂ (λ h t. h ∷ t) (same_Some content other (sym got ∙ zip.0)) (one-content most (budget - length content) files names contents others held.1 zip.1)

module _ (prescribes : Prescribes) (compiles : Compiles) (recipe report : List ℕ) (files : NamedFiles) where
  abbrev words : List (List ℕ)
  words = recipe ∷ report ∷ []

  pub accounts : Verified prescribes compiles recipe report files (verify recipe report files)
      → (outcome (provenance_plan words) files).status ≡ (outcome (verify_plan words) files).status
      → (outcome (provenance_plan words) files).files ≡ files
      → IsTrue (is_compared (verify recipe report files).status)
      → Accounted prescribes compiles recipe report files (provenance recipe report files)
  accounts v status kept compared =
      let r = replay recipe report files compared in
      let recipe_got = sym (within most_recipe (finite.get files recipe) r.holds.bytes r.holds.recipe_held).0 ∙ v.recipe_held in
      let recipe_bytes : r.holds.bytes ≡ v.recipe_bytes = cc in
      let recipe_read = sym r.holds.reads ∙ ap recipe_of recipe_bytes ∙ v.recipe_reads in
      let parsed : r.parsed ≡ v.parsed = cc in
      let report_got = sym (within most_report (finite.get files report) r.text r.text_held).0 ∙ v.report_held in
      let report_bytes : r.text ≡ v.report_bytes = cc in
      let report_read = sym r.text_reads ∙ ap report_of report_bytes ∙ v.report_reads in
      let made : r.made ≡ v.made = cc in
      let inputs : r.inputs ≡ v.inputs =
      one-content most_content most_inputs files (paths v.parsed) r.inputs v.inputs
      (subst (λ (s : RecipeContents). AreHeld most_content most_inputs files (paths s) r.inputs) parsed r.holds.inputs_held) v.inputs_held in
      record {
        verified = v;
        status = status;
        text = ap (λ (o : Outcome). o.text) (true-told recipe report files r.parsed r.inputs r.made (replay-held recipe report files compared) r.none)
            ∙ (λ i. provenance_text (parsed i) (inputs i) (made i));
        kept = kept;
      }
