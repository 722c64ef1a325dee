-- A report has no fault exactly where it is the bench's.
use Rattle.std.proofs.Common.{◌≡◌, ℕ, suc, ◌+◌, ◌≤◌, ◌==◌, ◌&&◌, Bool, true, false, if◌then◌else◌, Option, None, Some, Result, Ok, Err, List, [], ◌∷◌, ◌++◌, length, map, refl, sym, ap, ap₂, ◌∙◌, arith, eq-eqb}
use Rattle.std.specs.Prelude.{bytes_eq, option_map}
use Rattle.std.proofs.lemmas.Bool.{and_parts, and_from, eqb-true}
use Rattle.std.proofs.lemmas.List.{append_assoc, append-nil, map_push}
use Rattle.std.proofs.lemmas.Slice.Eq.{bytes_eq-Decides}
use Rattle.recipe.specs.declared.contents.RecipeContents.{RecipeContents}
use Rattle.recipe.specs.declared.parts.Input.{Input}
use Rattle.recipe.specs.declared.parts.Stage.{Stage}
use Rattle.recipe.specs.Kept.{IsRecipe, most_compared}
use Rattle.report.specs.declared.types.CompareLine.{CompareLine}
use Rattle.report.specs.declared.types.InputLine.{InputLine}
use Rattle.report.specs.declared.types.Report.{Report}
use Rattle.report.specs.declared.types.StageLine.{StageLine}
use Rattle.audit_rules.specs.declared.answer.AuditAnswer.{AuditAnswer}
use Rattle.audit_rules.specs.declared.answer.AuditAnswer.TheVariants.{Completes, Fails}
use Rattle.audit_rules.specs.declared.answer.StageFault.{StageFault}
use Rattle.audit_rules.specs.declared.answer.Finished.{Finished}
use Rattle.audit_rules.specs.Contents.{Contents, check_language, content}
use Rattle.report.specs.Marks.{mark_of}
use Rattle.audit_rules.specs.Stages.{contents, finished, stage_result}
use Rattle.audit_rules.specs.Bench.{after_stage as bench_after, bench, bench_from, bench_report, compare_line, compare_lines, compared, input_lines, stage_line, stage_lines}
use Rattle.verifier.specs.declared.part.Part.{Part}
use Rattle.verifier.specs.declared.part.Part.TheVariants as part
use Rattle.report.specs.Marks.{is_mark_of}
use Rattle.verifier.specs.Faults.{fault_after_stage, compare_fault, first_fault, first_of_both, inputs_fault, is_header, line_place, names_compared, names_inputs, names_stages, replayed, same_language, says, stages_fault, with_artefact, wrong_line}
use Rattle.verifier.proofs.DoneStages.{done-replayed, done-result, replayed-done, result-done}
use Rattle.verifier.proofs.MarkTests.{compared-Decides, language-Decides, left-Decides, mark-Decides}

-- ---- inputs

inputs-are : (number : ℕ) (rows : List Input) (inputs : List (List ℕ)) (lines : List InputLine) → names_inputs rows lines ≡ true
    → inputs_fault number inputs lines ≡ None → length inputs ≡ length rows → lines ≡ input_lines rows inputs
inputs-are number [] inputs [] named none counted = refl
inputs-are number [] inputs (line ∷ lines) named none counted = absurd cc
inputs-are number (row ∷ rows) inputs [] named none counted = absurd cc
inputs-are number (row ∷ rows) [] (line ∷ lines) named none counted = absurd (omega (arith, counted))
inputs-are number (row ∷ rows) (bytes ∷ inputs) (line ∷ lines) named none counted =
    by_test (is_mark_of line.mark bytes) refl none (λ later. inputs-are (number + 1) rows inputs lines parts.1 later (omega (arith, counted))) where
      parts : (bytes_eq row.name line.name ≡ true) × (names_inputs rows lines ≡ true)
      parts = and_parts (bytes_eq row.name line.name) (names_inputs rows lines) named

      by_test : (b : Bool) → is_mark_of line.mark bytes ≡ b → (if b then inputs_fault (number + 1) inputs lines else Some (part.Input, number)) ≡ None
          → (inputs_fault (number + 1) inputs lines ≡ None → lines ≡ input_lines rows inputs) → line ∷ lines ≡ input_lines (row ∷ rows) (bytes ∷ inputs)
      by_test true mark none later =
          λ i. record { name = sym ((bytes_eq-Decides row.name line.name).0 parts.0) i; mark = (mark-Decides line.mark bytes).0 mark i } ∷ later none i
      by_test false mark none later = absurd cc

named-inputs : (rows : List Input) (inputs : List (List ℕ)) → length inputs ≡ length rows → names_inputs rows (input_lines rows inputs) ≡ true
named-inputs [] inputs counted = refl
named-inputs (row ∷ rows) [] counted = absurd (omega (arith, counted))
named-inputs (row ∷ rows) (bytes ∷ inputs) counted =
    and_from (bytes_eq row.name row.name) (names_inputs rows (input_lines rows inputs)) ((bytes_eq-Decides row.name row.name).1 refl) (named-inputs rows inputs (omega (arith, counted)))

right-inputs : (number : ℕ) (rows : List Input) (inputs : List (List ℕ)) → inputs_fault number inputs (input_lines rows inputs) ≡ None
right-inputs number [] [] = refl
right-inputs number [] (bytes ∷ inputs) = refl
right-inputs number (row ∷ rows) [] = refl
right-inputs number (row ∷ rows) (bytes ∷ inputs) =
    ap (λ b. if b then inputs_fault (number + 1) inputs (input_lines rows inputs) else Some (part.Input, number)) ((mark-Decides (mark_of bytes) bytes).1 refl)
    ∙ right-inputs (number + 1) rows inputs

-- ---- the comparisons

lines-are : (recipe : RecipeContents) (all : Contents) (number : ℕ) (stages : List (List ℕ)) (lines : List CompareLine)
    → names_compared recipe.compare.binary stages lines ≡ true → wrong_line recipe all number lines ≡ None → map (compare_line recipe all) stages ≡ lines
lines-are recipe all number [] [] named none = refl
lines-are recipe all number [] (line ∷ lines) named none = absurd cc
lines-are recipe all number (stage ∷ stages) [] named none = absurd cc
lines-are recipe all number (stage ∷ stages) (line ∷ lines) named none =
    by_test (says line.result (content recipe all line.stage) (content recipe all line.binary)) refl none (lines-are recipe all (number + 1) stages lines rest.1) where
      rest : ((bytes_eq stage line.stage && bytes_eq recipe.compare.binary line.binary) ≡ true) × (names_compared recipe.compare.binary stages lines ≡ true)
      rest = and_parts (bytes_eq stage line.stage && bytes_eq recipe.compare.binary line.binary) (names_compared recipe.compare.binary stages lines) named

      here : (bytes_eq stage line.stage ≡ true) × (bytes_eq recipe.compare.binary line.binary ≡ true)
      here = and_parts (bytes_eq stage line.stage) (bytes_eq recipe.compare.binary line.binary) rest.0

      by_test : (b : Bool) → says line.result (content recipe all line.stage) (content recipe all line.binary) ≡ b
          → (if b then wrong_line recipe all (number + 1) lines else Some number) ≡ None
          → (wrong_line recipe all (number + 1) lines ≡ None → map (compare_line recipe all) stages ≡ lines)
          → map (compare_line recipe all) (stage ∷ stages) ≡ line ∷ lines
      by_test true is none later =
          let own = (bytes_eq-Decides stage line.stage).0 here.0 in
          let audited = (bytes_eq-Decides recipe.compare.binary line.binary).0 here.1 in
          let result = ap₂ (λ a b. compared (content recipe all a) (content recipe all b)) own audited
          ∙ (compared-Decides line.result (content recipe all line.stage) (content recipe all line.binary)).0 is in
          λ i. record { stage = own i; binary = audited i; result = result i } ∷ later none i
      by_test false is none later = absurd cc

right-lines : (recipe : RecipeContents) (all : Contents) (number : ℕ) (stages : List (List ℕ)) → wrong_line recipe all number (map (compare_line recipe all) stages) ≡ None
right-lines recipe all number [] = refl
right-lines recipe all number (stage ∷ stages) =
    let made = content recipe all stage in
    let binary = content recipe all recipe.compare.binary in
    ap (λ b. if b then wrong_line recipe all (number + 1) (map (compare_line recipe all) stages) else Some number)
    ((compared-Decides (compared made binary) made binary).1 refl)
    ∙ right-lines recipe all (number + 1) stages

named-lines : (recipe : RecipeContents) (all : Contents) (stages : List (List ℕ)) → names_compared recipe.compare.binary stages (map (compare_line recipe all) stages) ≡ true
named-lines recipe all [] = refl
named-lines recipe all (stage ∷ stages) =
    and_from (bytes_eq stage stage && bytes_eq recipe.compare.binary recipe.compare.binary) (names_compared recipe.compare.binary stages (map (compare_line recipe all) stages))
    (and_from (bytes_eq stage stage) (bytes_eq recipe.compare.binary recipe.compare.binary) ((bytes_eq-Decides stage stage).1 refl)
    ((bytes_eq-Decides recipe.compare.binary recipe.compare.binary).1 refl))
    (named-lines recipe all stages)

pub no-wrong-line : (recipe : RecipeContents) (form : ℕ) (lines : List CompareLine) (all : Contents) → compare_fault recipe form lines all ≡ None → wrong_line recipe all 1 lines ≡ None
no-wrong-line recipe form lines all none = by (wrong_line recipe all 1 lines) none where
  by : (o : Option ℕ) → ◌≡◌ {A = Option (Part × ℕ)} (option_map (λ number. (part.Compare, line_place form number)) o) None → o ≡ None
  by None is = refl
  by (Some number) is = absurd cc

own-lines : (recipe : RecipeContents) (form : ℕ) (all : Contents) → compare_fault recipe form (compare_lines recipe all) all ≡ None
own-lines recipe form all = ap (option_map (λ number. (part.Compare, line_place form number))) (right-lines recipe all 1 recipe.compare.stages)

-- ---- stages

one_more : (done more : List Finished) (f : Finished) → (done ++ f ∷ []) ++ more ≡ done ++ f ∷ more
one_more done more f = append_assoc done (f ∷ []) more

-- the contents after one more stage, either way
more-contents : (inputs : List (List ℕ)) (done : List Finished) (f : Finished) (made : List ℕ) → f.made ≡ made
    → with_artefact (contents inputs done) made ≡ contents inputs (done ++ f ∷ [])
more-contents inputs done f made same =
    λ i. record { inputs = inputs; artefacts = (ap (λ m. map (λ (g : Finished). g.made) done ++ m ∷ []) (sym same) ∙ sym (map_push (λ (g : Finished). g.made) done f)) i }

-- a stage whose line is right
record Right (recipe : RecipeContents) (inputs : List (List ℕ)) (done : List Finished) (stage : Stage) (line : StageLine) (made : List ℕ) : Type 0 where
  f : Finished
  result : stage_result recipe inputs done stage ≡ Ok f
  made_is : f.made ≡ made
  line_is : stage_line recipe stage f ≡ line

right : (recipe : RecipeContents) (inputs : List (List ℕ)) (done : List Finished) (stage : Stage) (line : StageLine) (made : List ℕ)
    → bytes_eq stage.name line.name ≡ true → same_language (check_language recipe stage) line.checked ≡ true
    → replayed recipe (contents inputs done) stage line ≡ Ok made → Right recipe inputs done stage line made
unfolding finished
right recipe inputs done stage line made named language is =
    let (world, ok, left, mark) = replayed-done recipe inputs done stage line made is in
    let leaves = (left-Decides line world).0 left in
    record {
      f = finished line.steps world made;
      result = done-result recipe inputs done stage line.steps world made ok;
      made_is = refl;
      line_is = λ i. record {
        name = (bytes_eq-Decides stage.name line.name).0 named i;
        steps = line.steps;
        stream1 = sym leaves.stream1 i;
        stream2 = sym leaves.stream2 i;
        left = sym leaves.files i;
        made = sym ((mark-Decides line.made made).0 mark) i;
        checked = (language-Decides (check_language recipe stage) line.checked).0 language i;
      };
    }

-- the line of a stage that is done is right
own-line : (recipe : RecipeContents) (inputs : List (List ℕ)) (done : List Finished) (stage : Stage) (f : Finished) → stage_result recipe inputs done stage ≡ Ok f
    → replayed recipe (contents inputs done) stage (stage_line recipe stage f) ≡ Ok f.made
unfolding finished
own-line recipe inputs done stage f is =
    let (world, made, ok, f_is) = result-done recipe inputs done stage f is in
    let same : made ≡ f.made = ap (λ (g : Finished). g.made) (sym f_is) in
    done-replayed recipe inputs done stage (stage_line recipe stage f) world made ok
    ((left-Decides (stage_line recipe stage f) world).1 (record {
      stream1 = ap (λ (g : Finished). g.stream1) f_is;
      stream2 = ap (λ (g : Finished). g.stream2) f_is;
      files = ap (λ (g : Finished). g.left) f_is;
    }))
    ((mark-Decides (mark_of f.made) made).1 (ap mark_of (sym same)))
    ∙ ap Ok same

-- what lines without a fault stand for
abbrev EndsWithout : RecipeContents → List (List ℕ) → (Contents → Option (Part × ℕ)) → List Finished → List Stage → List StageLine → Type 0
EndsWithout recipe inputs last done stages lines =
    (more : List Finished) × (bench_from recipe inputs done stages ≡ Completes (bench_report recipe inputs (done ++ more)))
    × (stage_lines recipe stages more ≡ lines) × (last (contents inputs (done ++ more)) ≡ None)

none-denotes : (recipe : RecipeContents) (inputs : List (List ℕ)) (last : Contents → Option (Part × ℕ)) (done : List Finished) (stages : List Stage) (lines : List StageLine)
    → names_stages recipe stages lines ≡ true → stages_fault recipe last (contents inputs done) stages lines ≡ None → EndsWithout recipe inputs last done stages lines
none-denotes recipe inputs last done [] [] named is = (
  [],
  ap (λ d. Completes (bench_report recipe inputs d)) (sym (append-nil done)),
  refl,
  ap (λ d. last (contents inputs d)) (append-nil done) ∙ is,
)
none-denotes recipe inputs last done [] (first ∷ lines) named is = absurd cc
none-denotes recipe inputs last done (stage ∷ stages) [] named is = absurd cc
none-denotes recipe inputs last done (stage ∷ stages) (first ∷ lines) named is =
    by_replay (replayed recipe (contents inputs done) stage first) refl is (λ d. none-denotes recipe inputs last d stages lines rest.1) where
      rest : ((bytes_eq stage.name first.name && same_language (check_language recipe stage) first.checked) ≡ true) × (names_stages recipe stages lines ≡ true)
      rest = and_parts (bytes_eq stage.name first.name && same_language (check_language recipe stage) first.checked) (names_stages recipe stages lines) named

      here : (bytes_eq stage.name first.name ≡ true) × (same_language (check_language recipe stage) first.checked ≡ true)
      here = and_parts (bytes_eq stage.name first.name) (same_language (check_language recipe stage) first.checked) rest.0

      by_replay : (r : Result (List ℕ) Part) → replayed recipe (contents inputs done) stage first ≡ r
          → fault_after_stage (length (contents inputs done).artefacts + 1) r (λ made. stages_fault recipe last (with_artefact (contents inputs done) made) stages lines) ≡ None
          → ((d : List Finished) → stages_fault recipe last (contents inputs d) stages lines ≡ None → EndsWithout recipe inputs last d stages lines)
          → EndsWithout recipe inputs last done (stage ∷ stages) (first ∷ lines)
      by_replay (Err why) at is later = absurd cc
      by_replay (Ok made) at is later =
          let ok = right recipe inputs done stage first made here.0 here.1 at in
          let more = later (done ++ ok.f ∷ []) (ap (λ all. stages_fault recipe last all stages lines) (sym (more-contents inputs done ok.f made ok.made_is)) ∙ is) in (
            ok.f ∷ more.0,
            ap (λ r. bench_after (suc (length done)) r (λ g. bench_from recipe inputs (done ++ g ∷ []) stages)) ok.result
                ∙ more.1
                ∙ ap (λ d. Completes (bench_report recipe inputs d)) (one_more done more.0 ok.f),
            (λ i. ok.line_is i ∷ more.2 i),
            ap (λ d. last (contents inputs d)) (sym (one_more done more.0 ok.f)) ∙ more.3,
          )

-- what stands after a bench that reaches its end
abbrev Reached : RecipeContents → List (List ℕ) → List Finished → List Stage → Report → Type 0
Reached recipe inputs done stages report =
    (more : List Finished) × (report ≡ bench_report recipe inputs (done ++ more)) × (names_stages recipe stages (stage_lines recipe stages more) ≡ true)
    × ((last : Contents → Option (Part × ℕ)) → last (contents inputs (done ++ more)) ≡ None
    → stages_fault recipe last (contents inputs done) stages (stage_lines recipe stages more) ≡ None)

same_report : (a b : Report) → Completes a ≡ Completes b → a ≡ b
same_report a b is = ap of is where
  of : AuditAnswer → Report
  of (Completes r) = r
  of (Fails n f) = a

reaches : (recipe : RecipeContents) (inputs : List (List ℕ)) (done : List Finished) (stages : List Stage) (report : Report)
    → bench_from recipe inputs done stages ≡ Completes report → Reached recipe inputs done stages report
reaches recipe inputs done [] report is = (
  [],
  sym (same_report (bench_report recipe inputs done) report is) ∙ ap (bench_report recipe inputs) (sym (append-nil done)),
  refl,
  λ last none. ap (λ d. last (contents inputs d)) (sym (append-nil done)) ∙ none,
)
reaches recipe inputs done (stage ∷ stages) report is = by_result (stage_result recipe inputs done stage) refl is (λ d. reaches recipe inputs d stages report) where
  by_result : (r : Result Finished StageFault) → stage_result recipe inputs done stage ≡ r
      → bench_after (suc (length done)) r (λ f. bench_from recipe inputs (done ++ f ∷ []) stages) ≡ Completes report
      → ((d : List Finished) → bench_from recipe inputs d stages ≡ Completes report → Reached recipe inputs d stages report)
      → Reached recipe inputs done (stage ∷ stages) report
  by_result (Err fault) at is later = absurd cc
  by_result (Ok f) at is later =
      let more = later (done ++ f ∷ []) is in (
        f ∷ more.0,
        more.1 ∙ ap (bench_report recipe inputs) (one_more done more.0 f),
        and_from (bytes_eq stage.name stage.name && same_language (check_language recipe stage) (check_language recipe stage)) (names_stages recipe stages (stage_lines recipe stages more.0))
            (and_from (bytes_eq stage.name stage.name) (same_language (check_language recipe stage) (check_language recipe stage))
            ((bytes_eq-Decides stage.name stage.name).1 refl) ((language-Decides (check_language recipe stage) (check_language recipe stage)).1 refl))
            more.2,
        λ last none.
            ap (λ r. fault_after_stage (length (contents inputs done).artefacts + 1) r (λ made. stages_fault recipe last (with_artefact (contents inputs done) made) stages (stage_lines recipe stages more.0)))
            (own-line recipe inputs done stage f at)
            ∙ ap (λ all. stages_fault recipe last all stages (stage_lines recipe stages more.0)) (more-contents inputs done f f.made refl)
            ∙ more.3 last (ap (λ d. last (contents inputs d)) (one_more done more.0 f) ∙ none),
      )

-- ---- the report

-- the parts of a header
pub record Header (recipe : RecipeContents) (report : Report) : Type 0 where
  pub form : (recipe.format == report.form) ≡ true
  pub digest : bytes_eq recipe.digest.0 report.recipe.0 ≡ true
  pub inputs : names_inputs recipe.inputs report.inputs ≡ true
  pub stages : names_stages recipe recipe.stages report.stages ≡ true
  pub compared : names_compared recipe.compare.binary recipe.compare.stages report.compare ≡ true

pub header-is : (recipe : RecipeContents) (report : Report) → is_header recipe report ≡ true → Header recipe report
unfolding is_header
header-is recipe report is =
    let form = recipe.format == report.form in
    let digest = bytes_eq recipe.digest.0 report.recipe.0 in
    let inputs = names_inputs recipe.inputs report.inputs in
    let stages = names_stages recipe recipe.stages report.stages in
    let last = and_parts (form && digest && inputs && stages) (names_compared recipe.compare.binary recipe.compare.stages report.compare) is in
    let middle = and_parts (form && digest && inputs) stages last.0 in
    let prefix = and_parts (form && digest) inputs middle.0 in
    let first = and_parts form digest prefix.0 in
    record { form = first.0; digest = first.1; inputs = prefix.1; stages = middle.1; compared = last.1 }

pub is-header : (recipe : RecipeContents) (report : Report) → Header recipe report → is_header recipe report ≡ true
unfolding is_header
is-header recipe report is =
    let form = recipe.format == report.form in
    let digest = bytes_eq recipe.digest.0 report.recipe.0 in
    let inputs = names_inputs recipe.inputs report.inputs in
    let stages = names_stages recipe recipe.stages report.stages in
    and_from (form && digest && inputs && stages) (names_compared recipe.compare.binary recipe.compare.stages report.compare)
    (and_from (form && digest && inputs) stages (and_from (form && digest) inputs (and_from form digest is.form is.digest) is.inputs) is.stages)
    is.compared

-- a header says how many compare lines there are
counted-lines : (binary : List ℕ) (stages : List (List ℕ)) (lines : List CompareLine) → names_compared binary stages lines ≡ true → length lines ≡ length stages
counted-lines binary [] [] named = refl
counted-lines binary [] (line ∷ lines) named = absurd cc
counted-lines binary (stage ∷ stages) [] named = absurd cc
counted-lines binary (stage ∷ stages) (line ∷ lines) named =
    let rest = (and_parts (bytes_eq stage line.stage && bytes_eq binary line.binary) (names_compared binary stages lines) named).1 in
    omega (arith, counted-lines binary stages lines rest)

few-compared : (format : ℕ) → most_compared format ≤ 16
few-compared format = by (format == 1) where
  by : (b : Bool) → (if b then 1 else 16) ≤ 16
  by true = omega arith
  by false = omega arith

pub few-lines : (recipe : RecipeContents) (report : Report) → IsRecipe recipe → is_header recipe report ≡ true → length report.compare ≤ 16
few-lines recipe report ok header =
    omega (
      arith,
      ok.few_compared,
      few-compared recipe.format,
      counted-lines recipe.compare.binary recipe.compare.stages report.compare (header-is recipe report header).compared,
    )

abbrev pub at_first : List (List ℕ) → Contents
at_first inputs = record { inputs = inputs; artefacts = [] }

pub fault-none : (recipe : RecipeContents) (inputs : List (List ℕ)) (report : Report) → length inputs ≡ length recipe.inputs
    → first_fault recipe inputs report ≡ None → bench recipe inputs ≡ Completes report
unfolding first_fault bench_report
fault-none recipe inputs report counted is = by_header (is_header recipe report) refl is where
  stages : Option (Part × ℕ)
  stages = stages_fault recipe (compare_fault recipe report.form report.compare) (at_first inputs) recipe.stages report.stages

  by_inputs : (o : Option (Part × ℕ)) → inputs_fault 1 inputs report.inputs ≡ o → Header recipe report → first_of_both o stages ≡ None → bench recipe inputs ≡ Completes report
  by_inputs (Some fault) at header is = absurd cc
  by_inputs None at header is =
      let denotes = none-denotes recipe inputs (compare_fault recipe report.form report.compare) [] recipe.stages report.stages header.stages is in
      let all = contents inputs denotes.0 in
      let compares = lines-are recipe all 1 recipe.compare.stages report.compare header.compared (no-wrong-line recipe report.form report.compare all denotes.3) in
      denotes.1
      ∙ (λ i. Completes (record {
        form = eqb-true recipe.format report.form header.form i;
        recipe = record { 0 = (bytes_eq-Decides recipe.digest.0 report.recipe.0).0 header.digest i };
        inputs = sym (inputs-are 1 recipe.inputs inputs report.inputs header.inputs at counted) i;
        stages = denotes.2 i;
        compare = compares i;
      }))

  by_header : (b : Bool) → is_header recipe report ≡ b → (if b then first_of_both (inputs_fault 1 inputs report.inputs) stages else Some (part.Header, 0)) ≡ None
      → bench recipe inputs ≡ Completes report
  by_header true header is = by_inputs (inputs_fault 1 inputs report.inputs) refl (header-is recipe report header) is
  by_header false header is = absurd cc

own-report : (recipe : RecipeContents) (inputs : List (List ℕ)) (done : List Finished) → length inputs ≡ length recipe.inputs
    → names_stages recipe recipe.stages (stage_lines recipe recipe.stages done) ≡ true
    → stages_fault recipe (compare_fault recipe recipe.format (compare_lines recipe (contents inputs done))) (at_first inputs) recipe.stages (stage_lines recipe recipe.stages done) ≡ None
    → first_fault recipe inputs (bench_report recipe inputs done) ≡ None
unfolding first_fault bench_report
own-report recipe inputs done counted named none =
    let report = bench_report recipe inputs done in
    let all = contents inputs done in
    let stages = stages_fault recipe (compare_fault recipe recipe.format (compare_lines recipe all)) (at_first inputs) recipe.stages (stage_lines recipe recipe.stages done) in
    ap (λ b. if b then first_of_both (inputs_fault 1 inputs (input_lines recipe.inputs inputs)) stages else Some (part.Header, 0))
    (is-header recipe report (record {
      form = eq-eqb recipe.format recipe.format refl;
      digest = (bytes_eq-Decides recipe.digest.0 recipe.digest.0).1 refl;
      inputs = named-inputs recipe.inputs inputs counted;
      stages = named;
      compared = named-lines recipe all recipe.compare.stages;
    }))
    ∙ ap (λ o. first_of_both o stages) (right-inputs 1 recipe.inputs inputs)
    ∙ none

pub none-fault : (recipe : RecipeContents) (inputs : List (List ℕ)) (report : Report) → length inputs ≡ length recipe.inputs
    → bench recipe inputs ≡ Completes report → first_fault recipe inputs report ≡ None
none-fault recipe inputs report counted is =
    let whole = reaches recipe inputs [] recipe.stages report is in
    let all = contents inputs whole.0 in
    ap (first_fault recipe inputs) whole.1
    ∙ own-report recipe inputs whole.0 counted whole.2
    (whole.3 (compare_fault recipe recipe.format (compare_lines recipe all)) (own-lines recipe recipe.format all))
