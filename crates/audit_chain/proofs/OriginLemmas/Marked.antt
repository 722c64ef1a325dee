-- The marks of a true report are those of the contents, and settle what they are of, or a collision is at hand.
use Rattle.std.proofs.Common.{◌≡◌, ℕ, zero, suc, ◌+◌, true, false, cond, Option, None, Some, Result, Ok, Err, List, [], ◌∷◌, ◌++◌, length, map, get_or, refl, sym, ap, ◌∙◌, subst, arith, All, inl, inr}
use Rattle.std.specs.Prelude.{◌⊎◌, IfSome, IsSome, bytes_eq, option_and_then, option_map, slice_get}
use Rattle.std.specs.Option.{option_or}
use Rattle.std.proofs.lemmas.Bool.{cases_Bool}
use Rattle.std.proofs.lemmas.List.{length-map, length_push}
use Rattle.std.proofs.lemmas.List.Elements.{All-cons, All-head, All-nil, All-tail}
use Rattle.std.proofs.lemmas.Option.{same_Some}
use Rattle.std.proofs.lemmas.Slice.Eq.{bytes_eq-Decides}
use Rattle.recipe.specs.declared.contents.RecipeContents.{RecipeContents}
use Rattle.recipe.specs.declared.parts.Content.{Content}
use Rattle.recipe.specs.declared.parts.Content.TheVariants.{Input as Given, Stage as Artefact}
use Rattle.recipe.specs.declared.parts.Input.{Input}
use Rattle.recipe.specs.declared.parts.Stage.{Stage}
use Rattle.recipe.specs.Kept.{IsMade, IsRecipe}
use Rattle.recipe.specs.Lookups.{content_named, input_at, stage_at}
use Rattle.report.specs.declared.types.InputLine.{InputLine}
use Rattle.report.specs.declared.types.Mark.{Mark}
use Rattle.report.specs.declared.types.Report.{Report}
use Rattle.report.specs.declared.types.StageLine.{StageLine}
use Rattle.report.specs.Marks.{mark_of}
use Rattle.audit_rules.specs.declared.answer.AuditAnswer.{AuditAnswer}
use Rattle.audit_rules.specs.declared.answer.AuditAnswer.TheVariants.{Completes, Fails}
use Rattle.audit_rules.specs.declared.answer.Finished.{Finished}
use Rattle.audit_rules.specs.declared.answer.StageFault.{StageFault}
use Rattle.audit_rules.specs.Bench.{after_stage, bench, bench_from, bench_report, input_lines, stage_lines}
use Rattle.audit_rules.specs.Contents.{Contents, bytes_named, content}
use Rattle.audit_rules.specs.Stages.{contents, stage_result}
use Rattle.audit_rules.specs.Valid.{IsInputs}
use Rattle.wheeler.specs.AllContents.{all_contents, done_from, stage_named, with_result}
use Rattle.wheeler.proofs.Naming.{position-low}
use Rattle.wheeler.proofs.RouteClosed.{there}
use Rattle.audit_chain.specs.Provenance.{Collision, SameMark, SameMarks, content_mark, mark_named, run_input_name, programs}
use Rattle.audit_chain.specs.Rests.Agree.{Agree, AgreeOnPrograms, IsSame, IsSameArtefact}
use Rattle.audit_chain.specs.Rests.Basis.{layouts, lines, texts}
use Rattle.audit_chain.specs.Rests.Walk.{runs_meet, walk}
use Rattle.audit_chain.proofs.RestsLemmas.Tests.{All-unfilter}
use Rattle.audit_chain.proofs.RestsLemmas.Whole.{basis-settles, no-line}

-- ---- the report of a bench

record IsReported (recipe : RecipeContents) (inputs : List (List ℕ)) (done : List Finished) (stages : List Stage) (report : Report) : Type 0 where
  report_is : report ≡ bench_report recipe inputs (done_from recipe inputs done stages)
  count : length (done_from recipe inputs done stages) ≡ length done + length stages

same_report : (a b : Report) → Completes a ≡ Completes b → a ≡ b
same_report a b is = ap report_in is where
  report_in : AuditAnswer → Report
  report_in (Completes r) = r
  report_in (Fails number fault) = a

reports : (recipe : RecipeContents) (inputs : List (List ℕ)) (done : List Finished) (stages : List Stage) (report : Report)
    → bench_from recipe inputs done stages ≡ Completes report → IsReported recipe inputs done stages report
reports recipe inputs done [] report is =
    record { report_is = sym (same_report (bench_report recipe inputs done) report is); count = omega arith }
reports recipe inputs done (stage ∷ stages) report is = by_result (stage_result recipe inputs done stage) refl is (λ d. reports recipe inputs d stages report) where
  by_result : (r : Result Finished StageFault) → stage_result recipe inputs done stage ≡ r
      → after_stage (suc (length done)) r (λ f. bench_from recipe inputs (done ++ f ∷ []) stages) ≡ Completes report
      → ((d : List Finished) → bench_from recipe inputs d stages ≡ Completes report → IsReported recipe inputs d stages report)
      → IsReported recipe inputs done (stage ∷ stages) report
  by_result (Err fault) at is later = absurd cc
  by_result (Ok f) at is later =
      let next = later (done ++ f ∷ []) is in
      let same : done_from recipe inputs done (stage ∷ stages) ≡ done_from recipe inputs (done ++ f ∷ []) stages =
      ap (λ o. with_result done o (λ d. done_from recipe inputs d stages)) at in
      let lengths = ap length same in
      record {
        report_is = next.report_is ∙ ap (bench_report recipe inputs) (sym same);
        count = omega (arith, lengths, next.count, length_push done f);
      }

-- ---- marks

input-marks : (rows : List Input) (inputs : List (List ℕ)) (index : ℕ) → length inputs ≡ length rows
    → option_map (λ (line : InputLine). line.mark) (slice_get (input_lines rows inputs) index) ≡ option_map mark_of (slice_get inputs index)
input-marks [] [] index counted = refl
input-marks [] (bytes ∷ inputs) index counted = absurd (omega (arith, counted))
input-marks (row ∷ rows) [] index counted = absurd (omega (arith, counted))
input-marks (row ∷ rows) (bytes ∷ inputs) zero counted = refl
input-marks (row ∷ rows) (bytes ∷ inputs) (suc index) counted = input-marks rows inputs index (omega (arith, counted))

stage-marks : (recipe : RecipeContents) (stages : List Stage) (done : List Finished) (index : ℕ) → length done ≡ length stages
    → option_map (λ (line : StageLine). line.made) (slice_get (stage_lines recipe stages done) index) ≡ option_map mark_of (slice_get (map (λ (f : Finished). f.made) done) index)
stage-marks recipe [] [] index counted = refl
stage-marks recipe [] (f ∷ done) index counted = absurd (omega (arith, counted))
stage-marks recipe (stage ∷ stages) [] index counted = absurd (omega (arith, counted))
stage-marks recipe (stage ∷ stages) (f ∷ done) zero counted = refl
stage-marks recipe (stage ∷ stages) (f ∷ done) (suc index) counted = stage-marks recipe stages done index (omega (arith, counted))

-- what is held at a place, where there is something
abbrev pub held_at : Contents → Content → Option (List ℕ)
held_at all (Given index) = slice_get all.inputs index
held_at all (Artefact index) = slice_get all.artefacts index

abbrev pub held : RecipeContents → Contents → List ℕ → Option (List ℕ)
held recipe all name = option_and_then (held_at all) (content_named recipe.inputs recipe.stages name)

abbrev pub or_nothing : Option (List ℕ) → List ℕ
or_nothing None = []
or_nothing (Some bytes) = bytes

read : (xs : List (List ℕ)) (index : ℕ) → get_or xs index [] ≡ or_nothing (slice_get xs index)
read [] index = refl
read (x ∷ xs) zero = refl
read (x ∷ xs) (suc index) = read xs index

pub content-held : (recipe : RecipeContents) (all : Contents) (name : List ℕ) → content recipe all name ≡ or_nothing (held recipe all name)
unfolding content
content-held recipe all name = by (content_named recipe.inputs recipe.stages name) where
  by : (o : Option Content) → bytes_named all o ≡ or_nothing (option_and_then (held_at all) o)
  by None = refl
  by (Some (Given index)) = read all.inputs index
  by (Some (Artefact index)) = read all.artefacts index

marks-at : (recipe : RecipeContents) (inputs : List (List ℕ)) (done : List Finished) (o : Option Content) → length inputs ≡ length recipe.inputs → length done ≡ length recipe.stages
    → option_and_then (content_mark (bench_report recipe inputs done)) o ≡ option_map mark_of (option_and_then (held_at (contents inputs done)) o)
unfolding bench_report
marks-at recipe inputs done None given counted = refl
marks-at recipe inputs done (Some (Given index)) given counted = input-marks recipe.inputs inputs index given
marks-at recipe inputs done (Some (Artefact index)) given counted = stage-marks recipe recipe.stages done index counted

pub mark-held : (recipe : RecipeContents) (inputs : List (List ℕ)) (report : Report) (name : List ℕ) → IsInputs recipe inputs → bench recipe inputs ≡ Completes report
    → mark_named recipe report name ≡ option_map mark_of (held recipe (all_contents recipe inputs) name)
unfolding mark_named all_contents
mark-held recipe inputs report name given is =
    let r = reports recipe inputs [] recipe.stages report is in
    let count : length (done_from recipe inputs [] recipe.stages) ≡ length recipe.stages = omega (arith, r.count) in
    ap (λ (o : Report). option_and_then (content_mark o) (content_named recipe.inputs recipe.stages name)) r.report_is
    ∙ marks-at recipe inputs (done_from recipe inputs [] recipe.stages) (content_named recipe.inputs recipe.stages name) given.count count

-- a name that stands for something is held
pub held-made : (recipe : RecipeContents) (inputs : List (List ℕ)) (report : Report) (name : List ℕ) → IsInputs recipe inputs → bench recipe inputs ≡ Completes report
    → IsMade recipe recipe.stages name → (bytes : List ℕ) × (held recipe (all_contents recipe inputs) name ≡ Some bytes)
unfolding all_contents content_named
held-made recipe inputs report name given is made = by_input (input_at recipe.inputs name) refl made where
  r : IsReported recipe inputs [] recipe.stages report
  r = reports recipe inputs [] recipe.stages report is

  all : Contents
  all = contents inputs (done_from recipe inputs [] recipe.stages)

  Goal : Option Content → Type 0
  Goal o = (bytes : List ℕ) × (option_and_then (held_at all) o ≡ Some bytes)

  by_stage : (o : Option ℕ) → stage_at recipe.stages name ≡ o → IsSome (option_map Artefact o) → Goal (option_map Artefact o)
  by_stage None at made = absurd cc
  by_stage (Some k) at made =
      let low = position-low (λ (s : Stage). bytes_eq s.name name) recipe.stages k at in
      let lengths = length-map (done_from recipe inputs [] recipe.stages) (λ (f : Finished). f.made) in
      (get_or all.artefacts k [], there all.artefacts k [] (omega (arith, low, lengths, r.count)))

  by_input : (o : Option ℕ) → input_at recipe.inputs name ≡ o → IsSome (option_or (option_map Given o) (option_map Artefact (stage_at recipe.stages name)))
      → Goal (option_or (option_map Given o) (option_map Artefact (stage_at recipe.stages name)))
  by_input None at made = by_stage (stage_at recipe.stages name) refl made
  by_input (Some k) at made =
      let low = position-low (λ (i : Input). bytes_eq i.name name) recipe.inputs k at in
      let counted = given.count in
      (get_or inputs k [], there inputs k [] (omega (arith, low, counted)))

pub marks-are : (recipe : RecipeContents) (inputs : List (List ℕ)) (report : Report) (name : List ℕ) → IsInputs recipe inputs → bench recipe inputs ≡ Completes report
    → IsMade recipe recipe.stages name → mark_named recipe report name ≡ Some (mark_of (content recipe (all_contents recipe inputs) name))
marks-are recipe inputs report name given is made =
    let here = held-made recipe inputs report name given is made in
    mark-held recipe inputs report name given is ∙ ap (option_map mark_of) here.1
    ∙ ap (λ bytes. Some (mark_of bytes)) (sym (content-held recipe (all_contents recipe inputs) name ∙ ap or_nothing here.1))

-- ---- the same, or a collision

same-or : (a b : Option (List ℕ)) → option_map mark_of a ≡ option_map mark_of b → (or_nothing a ≡ or_nothing b) ⊎ Collision
same-or None None is = inl refl
same-or None (Some b) is = absurd cc
same-or (Some a) None is = absurd cc
same-or (Some a) (Some b) is = elim (cases_Bool (bytes_eq a b)) [
  | inl same ↦ inl ((bytes_eq-Decides a b).0 same)
  | inr other ↦
      let marks : mark_of a ≡ mark_of b = same_Some (mark_of a) (mark_of b) is in
      inr (record {
        one = a;
        other = b;
        lengths = ap (λ (m : Mark). m.length) marks;
        digests = ap (λ (m : Mark). m.digest.0) marks;
        differ = λ same. let both : false ≡ true = sym other ∙ (bytes_eq-Decides a b).1 same in absurd cc;
      })
]

module _ (recipe : RecipeContents) (inputs others : List (List ℕ)) (report other : Report) (one : IsInputs recipe inputs) (two : IsInputs recipe others)
    (is : bench recipe inputs ≡ Completes report) (was : bench recipe others ≡ Completes other) where
  same-name : (name : List ℕ) → SameMark recipe report other name → IsSame recipe inputs others name ⊎ Collision
  same-name name marks =
      elim (same-or (held recipe (all_contents recipe inputs) name) (held recipe (all_contents recipe others) name)
      (sym (mark-held recipe inputs report name one is) ∙ marks ∙ mark-held recipe others other name two was)) [
        | inl same ↦ inl (content-held recipe (all_contents recipe inputs) name ∙ same ∙ sym (content-held recipe (all_contents recipe others) name))
        | inr found ↦ inr found
      ]

  pub same-names : (names : List (List ℕ)) → All (SameMark recipe report other) names → All (IsSame recipe inputs others) names ⊎ Collision
  same-names [] marks = inl (All-nil (IsSame recipe inputs others))
  same-names (name ∷ names) marks = elim (same-name name (All-head (SameMark recipe report other) name names marks)) [
    | inr found ↦ inr found
    | inl here ↦ elim (same-names names (All-tail (SameMark recipe report other) name names marks)) [
      | inr found ↦ inr found
      | inl rest ↦ inl (All-cons (IsSame recipe inputs others) name names here rest)
    ]
  ]

-- ---- filters

module _ (recipe : RecipeContents) (name : List ℕ) (P : List ℕ → Type 0) where
  run-programs : All P (programs recipe name) → All (λ (input : Input). runs_meet (walk recipe name) input.name ≡ true → P input.name) recipe.inputs
  unfolding programs
  run-programs all k d less run =
      let input = get_or recipe.inputs k d in
      let here = All-unfilter P (run_input_name (walk recipe name)) recipe.inputs all k d less in
      subst (λ o. IfSome o P) (ap (λ b. cond b (Some input.name) None) run) here

-- ---- what the marks settle

module _ (recipe : RecipeContents) (ok : IsRecipe recipe) (inputs others : List (List ℕ)) (report other : Report) (name : List ℕ) (stage : Stage)
    (one : IsInputs recipe inputs) (two : IsInputs recipe others) (is : bench recipe inputs ≡ Completes report) (was : bench recipe others ≡ Completes other)
    (at : stage_named recipe.stages name ≡ Some stage) where
  settled : All (IsSame recipe inputs others) (texts recipe name) → AgreeOnPrograms recipe inputs others name → All (IsSame recipe inputs others) (layouts recipe name)
      → IsSameArtefact recipe inputs others stage
  settled read run laid =
      let agree : Agree recipe inputs others name = record { texts = read; layouts = laid } in
      basis-settles recipe ok name inputs others report other stage one two is was at run agree

  pub marks-settle : SameMarks recipe report other name → IsSameArtefact recipe inputs others stage ⊎ Collision
  marks-settle marks = elim (same-names recipe inputs others report other one two is was (texts recipe name) marks.read) [
    | inr found ↦ inr found
    | inl read ↦ elim (same-names recipe inputs others report other one two is was (programs recipe name) marks.run) [
      | inr found ↦ inr found
      | inl run ↦ elim (same-names recipe inputs others report other one two is was (layouts recipe name) marks.laid) [
        | inr found ↦ inr found
        | inl laid ↦ inl (settled read (run-programs recipe name (IsSame recipe inputs others) run) laid)
      ]
    ]
  ]

  pub texts-settle : lines recipe name ≡ [] → layouts recipe name ≡ [] → All (SameMark recipe report other) (texts recipe name)
      → IsSameArtefact recipe inputs others stage ⊎ Collision
  texts-settle none laid marks = elim (same-names recipe inputs others report other one two is was (texts recipe name) marks) [
    | inr found ↦ inr found
    | inl read ↦ inl (settled read (no-line recipe ok name inputs others none) (subst (All (IsSame recipe inputs others)) (sym laid) (All-nil (IsSame recipe inputs others))))
  ]
