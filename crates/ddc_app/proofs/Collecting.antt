-- A report that is put together from what was seen of each stage is true.
use Rattle.std.proofs.Common.{◌≡◌, ◌↔◌, ℕ, suc, ◌+◌, ◌⊎◌, inl, inr, None, Some, Ok, List, [], ◌∷◌, ◌++◌, length, map, refl, sym, ap, ◌∙◌, append_assoc, append-nil, arith}
use Rattle.std.specs.List.{AllZip, flat_map}
use Rattle.std.proofs.lemmas.List.Concat.{flat_map-append}
use Rattle.ddc_base.specs.Outside.{NamedFiles}
use Rattle.ddc_base.specs.Lines.{line}
use Rattle.mem_files.specs.Outputs.{left, out}
use Rattle.mem_files.specs.World.{World}
use Rattle.guest_run.specs.Run.{Exited, end_at, end_of}
use Rattle.guest_run.specs.Start.{start_of}
use Rattle.guest_run.proofs.Running.{after-counted, end_at-next}
use Rattle.recipe.specs.Kept.{IsRecipe}
use Rattle.recipe.specs.Reading.{recipe_of}
use Rattle.recipe.specs.declared.contents.RecipeContents.{RecipeContents}
use Rattle.recipe.specs.declared.parts.Input.{Input}
use Rattle.recipe.specs.declared.parts.Stage.{Stage}
use Rattle.report.specs.Lines.{line_words, lines_text}
use Rattle.report.specs.Marks.{mark_of}
use Rattle.report.specs.Reports.{IsReport, report_text, stage_block}
use Rattle.report.specs.declared.line.ReportLine.{ReportLine}
use Rattle.report.specs.declared.line.ReportLine.TheVariants as entry
use Rattle.report.specs.declared.types.Report.{Report}
use Rattle.report.specs.declared.types.StageLine.{StageLine}
use Rattle.report.proofs.LineByLine.Readings.{read_its_text}
use Rattle.report.proofs.Readings.{report_rules}
use Rattle.audit_rules.specs.Bench.{bench, input_lines}
use Rattle.audit_rules.specs.Contents.{Contents, box_of, check_language, program_of}
use Rattle.audit_rules.specs.Stages.{finished, marked_left, output_of}
use Rattle.audit_rules.specs.Valid.{IsInputs}
use Rattle.audit_rules.specs.declared.answer.AuditAnswer.TheVariants.{Completes}
use Rattle.audit_rules.proofs.Closing.{bench-report}
use Rattle.audit_rules.proofs.Continues.{fresh}
use Rattle.audit_rules.proofs.Rules.{rules}
use Rattle.audit_rules.proofs.Slices.{end-step}
use Rattle.verifier.specs.Faults.{first_fault, with_artefact}
use Rattle.verifier.specs.TrueReport.{AreTrueInputs, AreTrueStages, IsTrueFile, IsTrueStage, TrueReport}
use Rattle.command_plan.specs.Plan.{Outcome, outcome}
use Rattle.recipe_plan.specs.Reports.{compared_status}
use Rattle.stage_commands.specs.Texts.{run_record}
use Rattle.verify_commands.specs.Texts.{true_text}
use Rattle.verify_commands.specs.Verify.{judged_report}
use Rattle.ddc_app.specs.Accepting.{verify}
use Rattle.ddc_app.specs.Collected.{AllSeen, AreSeenStages, Collected, IsCheckedInPieces, IsReplayed, IsSeenStage, blocks_text, collected_text}
use Rattle.ddc_app.specs.Headline.{HoldsTrueReport}
use Rattle.ddc_app.specs.Judged.{HoldsReport}
use Rattle.ddc_app.proofs.Judging.{judgement}

-- ---- a run that was checked in pieces is a replayed run

as-replayed : (recipe : RecipeContents) (before : Contents) (stage : Stage) (printed made : List ℕ) → IsCheckedInPieces recipe before stage printed made
    → IsReplayed recipe before stage printed made
as-replayed recipe before stage printed made p =
    let run = p.checked.run in
    let begun = run.start.begun in
    let starts : start_of (program_of recipe before stage) (box_of recipe before stage) ≡ Ok begun =
    (λ i. start_of (sym p.same.program i) (sym p.same.context i)) ∙ run.start.starts in
    let at_step = end-step begun run.start.named.steps (Exited 0, run.last) run.exits in
    let counted = after-counted begun run.last at_step.0 at_step.2 in
    let zero_steps = fresh _ _ begun starts in
    let number : run.last.steps + 1 ≡ suc at_step.0 = omega (arith, counted, zero_steps) in
    record {
      steps = run.last.steps + 1;
      world = run.last.world;
      run = record {
        start = begun;
        last = run.last;
        starts = starts;
        ends = ap (end_at begun) number ∙ end_at-next begun run.last at_step.0 at_step.2 ∙ ap (end_of run.last) at_step.3;
        leaves = refl;
      };
      within = omega (arith, at_step.1, number, p.same.limit);
      artefact = ap (λ output. out run.last.world (output_of output)) (sym p.same.output) ∙ run.left ∙ ap Some (sym p.artefact);
      text = p.text ∙ ap (λ (o : Outcome). o.text) p.checked.reported
          ∙ (λ i. run_record (p.same.called i) (finished (run.last.steps + 1) run.last.world (sym p.artefact i)));
    }

replay-of : (recipe : RecipeContents) (before : Contents) (stage : Stage) (printed made : List ℕ) → IsSeenStage recipe before stage printed made
    → IsReplayed recipe before stage printed made
replay-of recipe before stage printed made s = by s.run where
  by : IsReplayed recipe before stage printed made ⊎ IsCheckedInPieces recipe before stage printed made → IsReplayed recipe before stage printed made
  by (inl replayed) = replayed
  by (inr in_pieces) = as-replayed recipe before stage printed made in_pieces

-- ---- the line of a stage

abbrev row-of : RecipeContents → Stage → ℕ → World → List ℕ → StageLine
row-of recipe stage steps world made = record {
  name = stage.name;
  steps = steps;
  stream1 = mark_of world.stream1;
  stream2 = mark_of world.stream2;
  left = map marked_left (left world);
  made = mark_of made;
  checked = check_language recipe stage;
}

true-files : (files : List (List ℕ × List ℕ)) → AllZip IsTrueFile (map marked_left files) files
true-files [] = tt
true-files (file ∷ files) = (record { name = refl; mark = record { count = refl; digest = refl } }, true-files files)

true-stage : (recipe : RecipeContents) (before : Contents) (stage : Stage) (printed made : List ℕ) (s : IsSeenStage recipe before stage printed made)
    (r : IsReplayed recipe before stage printed made) → IsTrueStage recipe before stage (row-of recipe stage r.steps r.world made) made
true-stage recipe before stage printed made s r = record {
  name = refl;
  world = r.world;
  run = r.run;
  within = r.within;
  stream1 = record { count = refl; digest = refl };
  stream2 = record { count = refl; digest = refl };
  files = true-files (left r.world);
  artefact = r.artefact;
  mark = record { count = refl; digest = refl };
  together = s.together;
  language = refl;
  checked = s.checked;
}

-- ---- its block

-- lines after lines
joined : (xs ys : List ReportLine) → lines_text (xs ++ ys) ≡ lines_text xs ++ lines_text ys
joined xs ys = flat_map-append (λ (l : ReportLine). line (line_words l)) xs ys

block-text : (recipe : RecipeContents) (stage : Stage) (steps : ℕ) (world : World) (made : List ℕ)
    → lines_text (stage_block (row-of recipe stage steps world made))
    ≡ run_record stage.name (finished steps world made) ++ line (line_words (entry.Checked (check_language recipe stage)))
unfolding run_record finished
block-text recipe stage steps world made =
    let leading : List ReportLine =
    entry.Stage stage.name steps ∷ entry.Stream1 (mark_of world.stream1) ∷ entry.Stream2 (mark_of world.stream2) ∷ map entry.Left (map marked_left (left world)) in
    let checked : ReportLine = entry.Checked (check_language recipe stage) in
    let made_row : ReportLine = entry.Made (mark_of made) in
    ap lines_text (sym (append_assoc leading (made_row ∷ []) (checked ∷ [])))
    ∙ joined (leading ++ made_row ∷ []) (checked ∷ [])
    ∙ ap (λ text. lines_text (leading ++ made_row ∷ []) ++ text) (append-nil (line (line_words checked)))

-- ---- all stages

abbrev Rows : RecipeContents → Contents → List Stage → List (List ℕ) → Contents → Type 0
Rows recipe before stages texts all =
    (rows : List StageLine) × AreTrueStages recipe before stages rows all × (lines_text (flat_map stage_block rows) ≡ blocks_text recipe stages texts)

true-rows : (recipe : RecipeContents) (before : Contents) (stages : List Stage) (texts : List (List ℕ)) (all : Contents) → AreSeenStages recipe before stages texts all
    → Rows recipe before stages texts all
true-rows recipe before [] [] all are = ([], are, refl)
true-rows recipe before [] (printed ∷ texts) all are = absurd are
true-rows recipe before (stage ∷ stages) [] all are = absurd are
true-rows recipe before (stage ∷ stages) (printed ∷ texts) all are =
    let made = are.0 in
    let r = replay-of recipe before stage printed made are.1 in
    let rest = true-rows recipe (with_artefact before made) stages texts all are.2 in
    let first : StageLine = row-of recipe stage r.steps r.world made in
    let below : List ℕ = line (line_words (entry.Checked (check_language recipe stage))) in (
      first ∷ rest.0,
      (made, true-stage recipe before stage printed made are.1 r, rest.1),
      joined (stage_block first) (flat_map stage_block rest.0)
          ∙ (λ i. block-text recipe stage r.steps r.world made i ++ rest.2 i)
          ∙ ap (λ text. (text ++ below) ++ blocks_text recipe stages texts) (sym r.text),
    )

-- ---- the report

true-inputs : (rows : List Input) (inputs : List (List ℕ)) → length inputs ≡ length rows → AreTrueInputs rows inputs (input_lines rows inputs)
true-inputs [] [] counted = tt
true-inputs [] (bytes ∷ inputs) counted = absurd (omega (arith, counted))
true-inputs (row ∷ rows) [] counted = absurd (omega (arith, counted))
true-inputs (row ∷ rows) (bytes ∷ inputs) counted =
    (record { name = refl; mark = record { count = refl; digest = refl } }, true-inputs rows inputs (omega (arith, counted)))

-- the report that the collected text is
pub record Report-of (recipe : RecipeContents) (inputs : List (List ℕ)) (seen : AllSeen recipe inputs) : Type 0 where
  pub report : Report
  pub is_true : TrueReport recipe inputs report
  pub compares : report.compare ≡ seen.lines
  pub text : collected_text recipe inputs seen.printed seen.lines ≡ report_text report

pub report-of : (recipe : RecipeContents) (inputs : List (List ℕ)) (seen : AllSeen recipe inputs) → length inputs ≡ length recipe.inputs → Report-of recipe inputs seen
unfolding collected_text
report-of recipe inputs seen counted =
    let rows = true-rows recipe (record { inputs = inputs; artefacts = [] }) recipe.stages seen.printed seen.all seen.stages in
    let head : List ReportLine = entry.Header recipe.format ∷ entry.Recipe recipe.digest ∷ map entry.Input (input_lines recipe.inputs inputs) in
    let last : List ReportLine = map entry.Compare seen.lines ++ entry.End ∷ [] in
    record {
      report = record {
        form = recipe.format;
        recipe = recipe.digest;
        inputs = input_lines recipe.inputs inputs;
        stages = rows.0;
        compare = seen.lines;
      };
      is_true = record {
        form = refl;
        digest = refl;
        given = true-inputs recipe.inputs inputs counted;
        all = seen.all;
        stages = rows.1;
        compares = seen.compares;
      };
      compares = refl;
      text = sym (ap lines_text (append_assoc (head ++ flat_map stage_block rows.0) (map entry.Compare seen.lines) (entry.End ∷ []))
          ∙ joined (head ++ flat_map stage_block rows.0) last
          ∙ ap (λ text. text ++ lines_text last) (joined head (flat_map stage_block rows.0) ∙ ap (λ text. lines_text head ++ text) rows.2));
    }

-- ---- over files

module _ (recipe report : List ℕ) (files : NamedFiles) (h : Collected recipe report files)
    (keeps : (bytes : List ℕ) (parsed : RecipeContents) → recipe_of bytes ≡ Ok parsed → IsRecipe parsed)
    (clauses : (parsed : RecipeContents) (inputs : List (List ℕ)) (made : Report) → IsRecipe parsed → length inputs ≡ length parsed.inputs
    → TrueReport parsed inputs made ↔ (first_fault parsed inputs made ≡ None))
    (one : (parsed : RecipeContents) (inputs : List (List ℕ)) (made : Report) → IsRecipe parsed → IsInputs parsed inputs
    → (first_fault parsed inputs made ≡ None) ↔ (bench parsed inputs ≡ Completes made)) where
  is_kept : IsRecipe h.parsed
  is_kept = keeps h.recipe_bytes h.parsed h.recipe_reads

  abbrev it : Report-of h.parsed h.inputs h.seen
  it = report-of h.parsed h.inputs h.seen h.given.count

  none : first_fault h.parsed h.inputs it.report ≡ None
  none = (clauses h.parsed h.inputs it.report is_kept h.given.count).0 it.is_true

  is_report : IsReport it.report
  is_report = bench-report h.parsed h.inputs it.report (rules h.parsed is_kept) h.given ((one h.parsed h.inputs it.report is_kept h.given).0 none)

  abbrev held : HoldsReport recipe report files h.parsed h.inputs it.report
  held = record {
    two = h.two;
    recipe_bytes = h.recipe_bytes;
    recipe_held = h.recipe_held;
    recipe_reads = h.recipe_reads;
    apart = h.apart;
    report_bytes = collected_text h.parsed h.inputs h.seen.printed h.seen.lines;
    report_held = h.report_held;
    report_reads = read_its_text report_rules (collected_text h.parsed h.inputs h.seen.printed h.seen.lines) it.report is_report it.text;
    inputs_held = h.inputs_held;
  }

  pub collected-true : HoldsTrueReport recipe report files
  collected-true = record { parsed = h.parsed; inputs = h.inputs; made = it.report; held = held; is_true = it.is_true }

  pub collected-told : verify recipe report files
      ≡ record { status = compared_status h.seen.lines; text = true_text h.parsed h.seen.lines; files = files }
  collected-told =
      judgement recipe report files h.parsed h.inputs it.report held
      ∙ (λ i. outcome (judged_report h.parsed (it.compares i) (none i)) files)
