-- What a report to which `verify` returns 0 or 3 shows is what a collector has to have seen.
use Rattle.std.proofs.Common.{◌≡◌, ◌↔◌, ℕ, inl, None, Ok, List, [], ◌∷◌, length, refl, sym, ap, ◌∙◌}
use Rattle.std.specs.Prelude.{IsTrue, codes}
use Rattle.ddc_base.specs.declared.outside.Loaded.TheVariants.{Bytes}
use Rattle.ddc_base.specs.Outside.{NamedFiles}
use Rattle.recipe.specs.Kept.{IsRecipe}
use Rattle.recipe.specs.Reading.{recipe_of}
use Rattle.recipe.specs.declared.contents.RecipeContents.{RecipeContents}
use Rattle.recipe.specs.declared.parts.Stage.{Stage}
use Rattle.report.specs.Reports.{report_text}
use Rattle.report.specs.declared.types.Report.{Report}
use Rattle.report.specs.declared.types.StageLine.{StageLine}
use Rattle.report.proofs.LineByLine.Readings.{is_reading}
use Rattle.report.proofs.Readings.{report_rules}
use Rattle.audit_rules.specs.Bench.{bench}
use Rattle.audit_rules.specs.Contents.{Contents}
use Rattle.audit_rules.specs.Stages.{finished}
use Rattle.audit_rules.specs.Valid.{IsInputs}
use Rattle.audit_rules.specs.declared.answer.AuditAnswer.TheVariants.{Completes}
use Rattle.verifier.specs.Faults.{first_fault, with_artefact}
use Rattle.verifier.specs.TrueReport.{AreTrueStages, TrueReport}
use Rattle.command_plan.specs.Plan.{LoadsBytes}
use Rattle.command_plan.specs.Words.{are_two_files}
use Rattle.stage_commands.specs.Texts.{run_record}
use Rattle.ddc_app.specs.Accepting.{is_compared, verify}
use Rattle.ddc_app.specs.Collected.{AllSeen, AreSeenStages, Collected, collected_text}
use Rattle.ddc_app.specs.Commands.{plan_of}
use Rattle.ddc_app.specs.Judged.{HoldsReport}
use Rattle.ddc_app.proofs.Collecting.{Report-of, report-of}
use Rattle.ddc_app.proofs.TrueWritten.{replay, replay-held}
use Rattle.ddc_app.proofs.Verifying.{Replayed, typed}

abbrev Seen : RecipeContents → Contents → List Stage → Contents → Type 0
Seen recipe before stages all = (texts : List (List ℕ)) × AreSeenStages recipe before stages texts all

seen-stages : (recipe : RecipeContents) (before : Contents) (stages : List Stage) (lines : List StageLine) (all : Contents) → AreTrueStages recipe before stages lines all
    → Seen recipe before stages all
seen-stages recipe before [] [] all are = ([], are)
seen-stages recipe before [] (first ∷ lines) all are = absurd are
seen-stages recipe before (stage ∷ stages) [] all are = absurd are
seen-stages recipe before (stage ∷ stages) (first ∷ lines) all are =
    let made = are.0 in
    let t = are.1 in
    let rest = seen-stages recipe (with_artefact before made) stages lines all are.2 in (
      run_record stage.name (finished first.steps t.world made) ∷ rest.0,
      (
        made,
        record {
          run = inl (record { steps = first.steps; world = t.world; run = t.run; within = t.within; artefact = t.artefact; text = refl });
          together = t.together;
          checked = t.checked;
        },
        rest.1,
      ),
    )

-- all that a true report says was seen
record Seen-of (recipe : RecipeContents) (inputs : List (List ℕ)) (report : Report) : Type 0 where
  seen : AllSeen recipe inputs
  compares : seen.lines ≡ report.compare

seen-of : (recipe : RecipeContents) (inputs : List (List ℕ)) (report : Report) → TrueReport recipe inputs report → Seen-of recipe inputs report
seen-of recipe inputs report t =
    let stages = seen-stages recipe (record { inputs = inputs; artefacts = [] }) recipe.stages report.stages t.all t.stages in
    record {
      seen = record { printed = stages.0; all = t.all; stages = stages.1; lines = report.compare; compares = t.compares };
      compares = refl;
    }

-- ---- over files

module _ (recipe report : List ℕ) (files : NamedFiles)
    (keeps : (bytes : List ℕ) (parsed : RecipeContents) → recipe_of bytes ≡ Ok parsed → IsRecipe parsed)
    (clauses : (parsed : RecipeContents) (inputs : List (List ℕ)) (made : Report) → IsRecipe parsed → length inputs ≡ length parsed.inputs
    → TrueReport parsed inputs made ↔ (first_fault parsed inputs made ≡ None))
    (one : (parsed : RecipeContents) (inputs : List (List ℕ)) (made : Report) → IsRecipe parsed → IsInputs parsed inputs
    → (first_fault parsed inputs made ≡ None) ↔ (bench parsed inputs ≡ Completes made)) where
  -- two reports without a fault are one
  one-report : (parsed : RecipeContents) (inputs : List (List ℕ)) → IsRecipe parsed → IsInputs parsed inputs → (a b : Report) → first_fault parsed inputs a ≡ None
      → first_fault parsed inputs b ≡ None → a ≡ b
  one-report parsed inputs kept given a b first second =
      let both : Completes a ≡ Completes b = sym ((one parsed inputs a kept given).0 first) ∙ (one parsed inputs b kept given).0 second in
      cc

  module _ (parsed : RecipeContents) (inputs : List (List ℕ)) (made : Report) (h : HoldsReport recipe report files parsed inputs made) (given : IsInputs parsed inputs)
      (none : first_fault parsed inputs made ≡ None) where
    is_kept : IsRecipe parsed
    is_kept = keeps h.recipe_bytes parsed h.recipe_reads

    s : Seen-of parsed inputs made
    s = seen-of parsed inputs made ((clauses parsed inputs made is_kept given.count).1 none)

    again : Report-of parsed inputs s.seen
    again = report-of parsed inputs s.seen given.count

    same : made ≡ again.report
    same = one-report parsed inputs is_kept given made again.report none ((clauses parsed inputs again.report is_kept given.count).0 again.is_true)

    text : h.report_bytes ≡ collected_text parsed inputs s.seen.printed s.seen.lines
    text = (is_reading report_rules h.report_bytes (Ok made) h.report_reads).1 ∙ ap report_text same ∙ sym again.text

    collected-of : Collected recipe report files
    collected-of = record {
      two = h.two;
      recipe_bytes = h.recipe_bytes;
      recipe_held = h.recipe_held;
      parsed = parsed;
      recipe_reads = h.recipe_reads;
      apart = h.apart;
      inputs = inputs;
      inputs_held = h.inputs_held;
      given = given;
      seen = s.seen;
      report_held = h.report_held ∙ ap Bytes text;
    }

  pub true-collected : LoadsBytes (plan_of (codes "verify" ∷ recipe ∷ report ∷ [])) files → IsTrue (is_compared (verify recipe report files).status)
      → Collected recipe report files
  true-collected bytes compared =
      let r : Replayed recipe report files (verify recipe report files) = replay recipe report files compared in
      collected-of r.parsed r.inputs r.made (replay-held recipe report files compared)
      (typed recipe report files (are_two_files recipe report) (verify recipe report files) compared bytes r) r.none
