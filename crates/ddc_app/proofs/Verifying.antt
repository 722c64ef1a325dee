-- What an answer of `verify` says.
use Rattle.std.proofs.Common.{◌≡◌, ℕ, ◌-◌, Bool, true, false, cond, IsTrue, Option, Some, None, Ok, List, [], ◌∷◌, length, codes, refl, sym, ap, ◌∙◌, subst}
use Rattle.std.specs.FinMap as finite
use Rattle.std.specs.List.{AllZip}
use Rattle.ddc_base.specs.declared.outside.Loaded.TheVariants.{Bytes}
use Rattle.ddc_base.specs.Outside.{NamedFiles, loaded}
use Rattle.ddc_base.specs.Limits.{most_content, most_inputs, most_recipe, most_report}
use Rattle.recipe.specs.Kept.{IsRecipe}
use Rattle.recipe.specs.Reading.{recipe_of}
use Rattle.recipe.specs.declared.contents.RecipeContents.{RecipeContents}
use Rattle.report.specs.declared.types.CompareLine.{CompareLine}
use Rattle.report.specs.declared.types.Report.{Report}
use Rattle.report.specs.Reading.{report_of}
use Rattle.audit_rules.specs.Bench.{all_equal}
use Rattle.audit_rules.specs.Valid.{IsInputs}
use Rattle.verifier.specs.declared.part.Part.{Part}
use Rattle.verifier.specs.declared.part.Verdict.TheVariants as verdict
use Rattle.verifier.specs.Faults.{first_fault}
use Rattle.verifier.specs.Verdicts.{true_verdict}
use Rattle.wheeler.specs.Meaning.{Compiles, Prescribes}
use Rattle.wheeler.proofs.ComparedStages.{has-compared}
use Rattle.verifier.specs.Conclusion.Verdicts.{Shows}
use Rattle.command_plan.specs.declared.status.Status.{Status}
use Rattle.command_plan.specs.declared.status.Status.TheVariants as status
use Rattle.command_plan.specs.Answered.{is_answer}
use Rattle.command_plan.specs.Plan.{LoadsBytes, Plan, Outcome, answers, outcome, unless_refused}
use Rattle.command_plan.specs.Words.{are_two_files, usage}
use Rattle.recipe_plan.specs.Recipes.{is_input, needs_apart, needs_inputs, paths}
use Rattle.recipe_plan.specs.Reports.{compared_status, needs_report}
use Rattle.command_plan.specs.Texts.{report_line}
use Rattle.verify_commands.specs.Verify.{judge_files, judged_report, verified, verify_files}
use Rattle.ddc_app.specs.Accepting.{is_compared, verify}
use Rattle.ddc_app.specs.Commands.{plan_of}
use Rattle.ddc_app.specs.Verified.{ShownBy, Verified}
use Rattle.ddc_app.specs.Holding.{AreHeld}
use Rattle.ddc_app.proofs.Loads.{loads_bytes, within}
use Rattle.ddc_app.proofs.Openings.{Holds, apart_loads, are_loaded, is_recipe, recipe_loads}
use Rattle.ddc_app.proofs.Walks.{IsRefusal, both_need, both_need_apart, both_need_inputs, both_need_recipe, both_read, told}

-- ---- a replay that comes to a comparison

pub record Replayed (recipe report : List ℕ) (files : NamedFiles) (answer : Outcome) : Type 0 where
  pub parsed : RecipeContents
  pub inputs : List (List ℕ)
  pub holds : Holds recipe parsed inputs files
  pub apart : is_input parsed report ≡ false
  pub text : List ℕ
  pub text_held : loaded files report most_report ≡ Bytes text
  pub made : Report
  pub text_reads : report_of text ≡ Ok made
  pub none : first_fault parsed inputs made ≡ None
  pub leads : answer ≡ outcome (judged_report parsed made.compare None) files

module _ (recipe report : List ℕ) (files : NamedFiles) where
  abbrev Goes : Outcome → Outcome → Type 0
  Goes answer _ = IsTrue (is_compared answer.status) → Replayed recipe report files answer

  refused : (status : Status) (text : List ℕ) → IsRefusal status → Goes (told files status text) (told files status text)
  refused status text refusal compared = let both : false ≡ true = sym refusal.1 ∙ compared in absurd cc

  module _ (bytes : List ℕ) (parsed : RecipeContents) (held : loaded files recipe most_recipe ≡ Bytes bytes) (reads : recipe_of bytes ≡ Ok parsed) (apart : is_input parsed report ≡ false)
      (text : List ℕ) (text_held : loaded files report most_report ≡ Bytes text) where
    by_fault : (made : Report) → report_of text ≡ Ok made → (inputs : List (List ℕ)) → AreHeld most_content most_inputs files (paths parsed) inputs
        → (fault : Option (Part × ℕ)) → first_fault parsed inputs made ≡ fault
        → Goes (outcome (judged_report parsed made.compare fault) files) (outcome (judged_report parsed made.compare fault) files)
    by_fault made text_reads inputs inputs_held None none compared = record {
      parsed = parsed;
      inputs = inputs;
      holds = record { bytes = bytes; recipe_held = held; reads = reads; inputs_held = inputs_held };
      apart = apart;
      text = text;
      text_held = text_held;
      made = made;
      text_reads = text_reads;
      none = none;
      leads = refl;
    }
    by_fault made text_reads inputs inputs_held (Some (part, place)) none compared = absurd cc

  by_recipe : (bytes : List ℕ) (parsed : RecipeContents) → loaded files recipe most_recipe ≡ Bytes bytes → recipe_of bytes ≡ Ok parsed
      → Goes (outcome (needs_apart parsed report (λ _. needs_report report (λ made. needs_inputs parsed (λ inputs. verified parsed inputs made)))) files)
      (outcome (needs_apart parsed report (λ _. needs_report report (λ made. needs_inputs parsed (λ inputs. verified parsed inputs made)))) files)
  by_recipe bytes parsed held reads =
      let last : Report → List (List ℕ) → Plan = λ made inputs. verified parsed inputs made in
      let loads : Report → Plan = λ made. needs_inputs parsed (last made) in
      let reading : List ℕ → Plan = λ text. unless_refused (report_of text) (λ number. answers status.ReportRefused (report_line number)) loads in
      let then : Unit {0} → Plan = λ _. needs_report report loads in
      both_need_apart Goes files refused parsed report then then (λ apart.
      both_need Goes files refused report most_report reading reading (λ text text_held.
      both_read Goes files refused (report_of text) status.ReportRefused report_line loads loads (refl, refl) (λ made text_reads.
      both_need_inputs Goes files refused parsed (last made) (last made) (λ inputs inputs_held.
      by_fault bytes parsed held reads apart text text_held made text_reads inputs inputs_held (first_fault parsed inputs made) refl))))

  pub replayed : (two : Bool) → IsTrue (is_compared (outcome (cond two (verify_files recipe report) usage) files).status)
      → Replayed recipe report files (outcome (cond two (verify_files recipe report) usage) files)
  unfolding judge_files
  replayed false compared = absurd cc
  replayed true compared =
      let next : RecipeContents → Plan = λ parsed. needs_apart parsed report (λ _. needs_report report (λ made. needs_inputs parsed (λ inputs. verified parsed inputs made))) in
      both_need_recipe Goes files refused recipe next next by_recipe compared

  -- the inputs are bytes where the plan's loads found bytes
  pub typed : (two : Bool) (answer : Outcome) → IsTrue (is_compared (outcome (cond two (verify_files recipe report) usage) files).status)
      → LoadsBytes (cond two (verify_files recipe report) usage) files → (r : Replayed recipe report files answer) → IsInputs r.parsed r.inputs
  unfolding judge_files
  typed false answer compared bytes r = absurd cc
  typed true answer compared bytes r =
      let last : Report → List (List ℕ) → Plan = λ made inputs. verified r.parsed inputs made in
      let loads : Report → Plan = λ made. needs_inputs r.parsed (last made) in
      let refuse : ℕ → Plan = λ number. answers status.ReportRefused (report_line number) in
      let next : RecipeContents → Plan = λ parsed. needs_apart parsed report (λ _. needs_report report (λ made. needs_inputs parsed (λ inputs. verified parsed inputs made))) in
      let reported : LoadsBytes (needs_report report loads) files =
      apart_loads r.parsed report (λ _. needs_report report loads) files r.apart (recipe_loads recipe r.parsed r.inputs files r.holds next bytes) in
      let made = (loads_bytes report most_report (λ text. unless_refused (report_of text) refuse loads) files r.text r.text_held reported).1 in
      are_loaded recipe r.parsed r.inputs files r.holds (last r.made) (subst (λ reading. LoadsBytes (unless_refused reading refuse loads) files) r.text_reads made)

-- each input is held
all-held : (budget : ℕ) (files : NamedFiles) (names contents : List (List ℕ)) → AreHeld most_content budget files names contents
    → AllZip (λ name content. finite.get files name ≡ Some content) names contents
all-held budget files [] [] held = tt
all-held budget files (name ∷ names) [] held = absurd held
all-held budget files [] (content ∷ contents) held = absurd held
all-held budget files (name ∷ names) (content ∷ contents) held =
    ((within _ (finite.get files name) content held.0).0, all-held (budget - length content) files names contents held.1)

module _ (prescribes : Prescribes) (compiles : Compiles) where
  by-status : (parsed : RecipeContents) (inputs : List (List ℕ)) (lines : List CompareLine) → Shows prescribes compiles parsed inputs lines (true_verdict lines)
      → ShownBy prescribes compiles parsed inputs lines (compared_status lines)
  by-status parsed inputs lines = by (all_equal lines) where
    by : (b : Bool) → Shows prescribes compiles parsed inputs lines (cond b verdict.Yes verdict.TrueButDiffers)
        → ShownBy prescribes compiles parsed inputs lines (cond b status.Yes status.Differs)
    by true shown = shown
    by false shown = shown

  abbrev pub Shown : Type 0
  Shown = (parsed : RecipeContents) (inputs : List (List ℕ)) (made : Report) → IsRecipe parsed → IsInputs parsed inputs → first_fault parsed inputs made ≡ None
      → Shows prescribes compiles parsed inputs made.compare (true_verdict made.compare)

  pub verifies : Shown → (recipe report : List ℕ) (files : NamedFiles) → LoadsBytes (plan_of (codes "verify" ∷ recipe ∷ report ∷ [])) files
      → IsTrue (is_compared (verify recipe report files).status) → Verified prescribes compiles recipe report files (verify recipe report files)
  verifies shows recipe report files bytes compared =
      let r = replayed recipe report files (are_two_files recipe report) compared in
      let answers : (verify recipe report files).status ≡ compared_status r.made.compare = ap (λ (a : Outcome). a.status) r.leads in
      let rules = is_recipe recipe r.parsed r.inputs files r.holds in
      let given = typed recipe report files (are_two_files recipe report) (verify recipe report files) compared bytes r in
      record {
        recipe_bytes = r.holds.bytes;
        recipe_held = (within most_recipe (finite.get files recipe) r.holds.bytes r.holds.recipe_held).0;
        parsed = r.parsed;
        recipe_reads = r.holds.reads;
        rules = rules;
        compared = has-compared r.parsed rules;
        inputs = r.inputs;
        inputs_held = all-held most_inputs files (paths r.parsed) r.inputs r.holds.inputs_held;
        limits = given;
        report_bytes = r.text;
        report_held = (within most_report (finite.get files report) r.text r.text_held).0;
        made = r.made;
        report_reads = r.text_reads;
        true_report = r.none;
        status = answers;
        text = ap (λ (a : Outcome). a.text) r.leads;
        shown = subst (ShownBy prescribes compiles r.parsed r.inputs r.made.compare) (sym answers)
            (by-status r.parsed r.inputs r.made.compare (shows r.parsed r.inputs r.made rules given r.none));
      }

-- a comparison is an answer
pub compared_answers : (s : Status) → IsTrue (is_compared s) → IsTrue (is_answer s)
compared_answers status.Yes compared = refl
compared_answers status.Differs compared = refl
compared_answers _ compared = absurd cc
