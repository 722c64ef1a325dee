-- An audit's own report is accepted.
use Rattle.std.proofs.Common.{◌≡◌, ℕ, Bool, true, false, cond, IsTrue, Some, None, Ok, List, [], ◌∷◌, codes, refl, sym, ap, ◌∙◌, subst}
use Rattle.std.specs.FinMap as finite
use Rattle.ddc_base.specs.declared.outside.Loaded.TheVariants.{Bytes}
use Rattle.ddc_base.specs.Outside.{NamedFiles, loaded}
use Rattle.ddc_base.specs.Limits.{most_recipe, most_report}
use Rattle.recipe.specs.Reading.{recipe_of}
use Rattle.recipe.specs.declared.contents.RecipeContents.{RecipeContents}
use Rattle.report.specs.declared.types.Report.{Report}
use Rattle.report.specs.Reading.{report_of}
use Rattle.report.specs.Reports.{IsReport, report_text}
use Rattle.report.proofs.Lengths.{short}
use Rattle.report.proofs.LineByLine.Readings.{read_its_text}
use Rattle.report.proofs.Readings.{report_rules}
use Rattle.audit_rules.specs.Bench.{bench}
use Rattle.audit_rules.specs.Valid.{IsInputs}
use Rattle.audit_rules.specs.declared.answer.AuditAnswer.{AuditAnswer}
use Rattle.audit_rules.specs.declared.answer.AuditAnswer.TheVariants.{Completes, Fails}
use Rattle.audit_rules.specs.declared.answer.StageFault.TheVariants.{Runs, Checks}
use Rattle.audit_rules.proofs.Closing.{bench-report}
use Rattle.audit_rules.proofs.Rules.{rules}
use Rattle.verifier.proofs.OneReport.{none-fault}
use Rattle.command_plan.specs.declared.status.Status.{Status}
use Rattle.command_plan.specs.declared.status.Status.TheVariants.{ReportRefused}
use Rattle.command_plan.specs.Plan.{LoadsBytes, Plan, Outcome, answers, outcome, unless_refused}
use Rattle.command_plan.specs.Words.{are_two_files, usage}
use Rattle.recipe_plan.specs.Recipes.{is_input, needs_apart, needs_inputs}
use Rattle.recipe_plan.specs.Reports.{needs_report}
use Rattle.command_plan.specs.Texts.{report_line}
use Rattle.audit_commands.specs.Audit.{audit_files, audited, completed}
use Rattle.verify_commands.specs.Verify.{judge_files, judged_report, verified, verify_files}
use Rattle.ddc_app.specs.Accepting.{audit, is_compared, verify}
use Rattle.ddc_app.specs.Commands.{plan_of}
use Rattle.ddc_app.proofs.Beginnings.{audit_loaded}
use Rattle.ddc_app.proofs.Loads.{follows, is_loaded, set_held, two_apart}
use Rattle.ddc_app.proofs.Openings.{Holds, apart_opens, holds_again, inputs_open, is_recipe, recipe_opens}
use Rattle.ddc_app.proofs.Walks.{IsRefusal, both_need_apart, both_need_inputs, both_need_recipe, told}

-- ---- an audit that comes to a comparison

record Went (recipe report : List ℕ) (files : NamedFiles) (answer : Outcome) : Type 0 where
  parsed : RecipeContents
  inputs : List (List ℕ)
  holds : Holds recipe parsed inputs files
  apart : is_input parsed report ≡ false
  made : Report
  comes : bench parsed inputs ≡ Completes made
  leads : answer ≡ outcome (completed report made) files

module _ (recipe report : List ℕ) (files : NamedFiles) where
  abbrev Goes : Outcome → Outcome → Type 0
  Goes answer _ = IsTrue (is_compared answer.status) → Went recipe report files answer

  refused : (status : Status) (text : List ℕ) → IsRefusal status → Goes (told files status text) (told files status text)
  refused status text refusal compared = let both : false ≡ true = sym refusal.1 ∙ compared in absurd cc

  by_answer : (parsed : RecipeContents) (inputs : List (List ℕ)) → Holds recipe parsed inputs files → is_input parsed report ≡ false → (answer : AuditAnswer) → bench parsed inputs ≡ answer
      → Goes (outcome (audited parsed report answer) files) (outcome (audited parsed report answer) files)
  by_answer parsed inputs holds apart (Completes made) comes compared =
      record { parsed = parsed; inputs = inputs; holds = holds; apart = apart; made = made; comes = comes; leads = refl }
  by_answer parsed inputs holds apart (Fails number (Runs cause step)) comes compared = absurd cc
  by_answer parsed inputs holds apart (Fails number (Checks cause)) comes compared = absurd cc

  by_recipe : (bytes : List ℕ) (parsed : RecipeContents) → loaded files recipe most_recipe ≡ Bytes bytes → recipe_of bytes ≡ Ok parsed
      → Goes (outcome (needs_apart parsed report (λ _. needs_inputs parsed (λ inputs. audited parsed report (bench parsed inputs)))) files)
      (outcome (needs_apart parsed report (λ _. needs_inputs parsed (λ inputs. audited parsed report (bench parsed inputs)))) files)
  by_recipe bytes parsed held reads =
      let last : List (List ℕ) → Plan = λ inputs. audited parsed report (bench parsed inputs) in
      let then : Unit {0} → Plan = λ _. needs_inputs parsed last in
      both_need_apart Goes files refused parsed report then then (λ apart. both_need_inputs Goes files refused parsed last last (λ inputs inputs_held.
      by_answer parsed inputs (record { bytes = bytes; recipe_held = held; reads = reads; inputs_held = inputs_held }) apart (bench parsed inputs) refl))

  went : (two : Bool) → IsTrue (is_compared (outcome (cond two (audit_files recipe report) usage) files).status)
      → (two ≡ true) × Went recipe report files (outcome (cond two (audit_files recipe report) usage) files)
  unfolding audit_files
  went false compared = absurd cc
  went true compared =
      let next : RecipeContents → Plan = λ parsed. needs_apart parsed report (λ _. needs_inputs parsed (λ inputs. audited parsed report (bench parsed inputs))) in
      (refl, both_need_recipe Goes files refused recipe next next by_recipe compared)

-- ---- a replay of its report

-- files that hold a recipe, its inputs and the bench's report
pub record Replays (recipe report : List ℕ) (files : NamedFiles) : Type 0 where
  pub two : are_two_files recipe report ≡ true
  pub parsed : RecipeContents
  pub inputs : List (List ℕ)
  pub holds : Holds recipe parsed inputs files
  pub apart : is_input parsed report ≡ false
  pub given : IsInputs parsed inputs
  pub made : Report
  pub comes : bench parsed inputs ≡ Completes made
  pub report_held : finite.get files report ≡ Some (report_text made)

module _ (recipe report : List ℕ) (files : NamedFiles) (r : Replays recipe report files) where
  is_report : IsReport r.made
  is_report = bench-report r.parsed r.inputs r.made (rules r.parsed (is_recipe recipe r.parsed r.inputs files r.holds)) r.given r.comes

  -- the same loads lead to its verdict
  pub judges : verify recipe report files ≡ outcome (judged_report r.parsed r.made.compare None) files
  unfolding judge_files
  judges =
      let last : Report → Plan = λ made. needs_inputs r.parsed (λ inputs. verified r.parsed inputs made) in
      let refuse : ℕ → Plan = λ number. answers ReportRefused (report_line number) in
      ap (λ two. outcome (cond two (verify_files recipe report) usage) files) r.two
      ∙ recipe_opens recipe r.parsed r.inputs files r.holds
      (λ parsed. needs_apart parsed report (λ _. needs_report report (λ made. needs_inputs parsed (λ inputs. verified parsed inputs made))))
      ∙ apart_opens r.parsed report (λ _. needs_report report last) files false r.apart
      ∙ follows report most_report (λ text. unless_refused (report_of text) refuse last) files (report_text r.made)
      (is_loaded files report (report_text r.made) most_report r.report_held (short r.made is_report))
      ∙ ap (λ reading. outcome (unless_refused reading refuse last) files) (read_its_text report_rules (report_text r.made) r.made is_report refl)
      ∙ inputs_open recipe r.parsed r.inputs files r.holds (λ inputs. verified r.parsed inputs r.made)
      ∙ ap (λ fault. outcome (judged_report r.parsed r.made.compare fault) files) (none-fault r.parsed r.inputs r.made r.given.count r.comes)

pub accepts : (recipe report : List ℕ) (files : NamedFiles) → LoadsBytes (plan_of (codes "audit" ∷ recipe ∷ report ∷ [])) files
    → IsTrue (is_compared (audit recipe report files).status) → (verify recipe report (audit recipe report files).files).status ≡ (audit recipe report files).status
unfolding completed
accepts recipe report files bytes compared =
    let (two, w) = went recipe report files (are_two_files recipe report) compared in
    let text : List ℕ = report_text w.made in
    let after : NamedFiles = finite.insert files report text in
    let r : Replays recipe report after = record {
      two = two;
      parsed = w.parsed;
      inputs = w.inputs;
      holds = holds_again recipe w.parsed w.inputs files w.holds report text (two_apart recipe report two) w.apart;
      apart = w.apart;
      given = audit_loaded recipe report w.parsed w.inputs files two w.holds w.apart bytes;
      made = w.made;
      comes = w.comes;
      report_held = set_held files report text;
    } in
    subst (λ (o : Outcome). (verify recipe report o.files).status ≡ o.status) (sym w.leads) (ap (λ (o : Outcome). o.status) (judges recipe report after r))
