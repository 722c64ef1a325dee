-- A report has no fault exactly where every word of it is true, clause by clause.
use Rattle.std.proofs.Common.{◌≡◌, ℕ, suc, ◌+◌, ◌==◌, ◌&&◌, Bool, true, false, cond, nat_le, if◌then◌else◌, Option, None, Some, Result, Ok, Err, List, [], ◌∷◌, length, map, take, get_or, All, refl, sym, ap, ap₂, ◌∙◌, subst, arith, eq-eqb}
use Rattle.std.specs.Bool.{Decides}
use Rattle.std.specs.List.{AllZip}
use Rattle.std.specs.Prelude.{bytes_eq, is_none, option_and_then, option_map, slice_get}
use Rattle.std.proofs.lemmas.Bool.{and_parts, and_from, eqb-true, le-leb}
use Rattle.std.proofs.lemmas.List.Elements.{All-cons, All-head, All-nil, All-tail}
use Rattle.std.proofs.lemmas.Option.{none-some, same_Some, slice_get-get_or}
use Rattle.std.proofs.lemmas.Slice.Eq.{bytes_eq-Decides}
use Rattle.ddc_base.specs.Difference.{IsFirstDifference, first_difference}
use Rattle.ddc_base.specs.Results.{◌>>=◌, or_error}
use Rattle.ddc_base.proofs.Differences.{first_difference-at, first_difference-same}
use Rattle.ddc_base.specs.declared.digests.Digest.{Digest}
use Rattle.ddc_base.specs.declared.languages.Language.{Language}
use Rattle.ddc_base.specs.declared.languages.Language.TheVariants.{Hex0, Hex1, Hex2, M1}
use Rattle.ddc_base.specs.Limits.{most_artefacts}
use Rattle.hex_langs.specs.declared.items.item.Item.{Item}
use Rattle.hex_langs.specs.declared.items.item.Item.TheVariants as item
use Rattle.hex_langs.specs.declared.items.item.Kind.{Kind}
use Rattle.hex_langs.specs.declared.items.item.Kind.TheVariants.{I, B, J, U}
use Rattle.hex_langs.specs.declared.items.reader.HexRefusal.{HexRefusal}
use Rattle.hex_langs.specs.declared.items.token.Dialect.TheVariants as dialect
use Rattle.hex_langs.specs.Items.Reading.{items_of}
use Rattle.hex_langs.specs.declared.link.values.HexLanguage.TheVariants as hex
use Rattle.hex_langs.specs.Link.Values.{value_of}
use Rattle.m1_lang.specs.declared.refusal.M1Refusal.{M1Refusal}
use Rattle.m1_lang.specs.Expansion.{expansion_of}
use Rattle.mem_files.specs.World.{World}
use Rattle.mem_files.specs.Outputs.{left, out}
use Rattle.guest_run.specs.Run.{Exited}
use Rattle.recipe.specs.declared.contents.RecipeContents.{RecipeContents}
use Rattle.recipe.specs.declared.parts.Input.{Input}
use Rattle.recipe.specs.declared.parts.Source.{Source}
use Rattle.recipe.specs.declared.parts.SourceLanguage.{SourceLanguage}
use Rattle.recipe.specs.declared.parts.SourceLanguage.TheVariants.{Defined, Other}
use Rattle.recipe.specs.declared.parts.Stage.{Stage}
use Rattle.recipe.specs.Kept.{IsCheck, IsRecipe}
use Rattle.recipe.specs.Lookups.{source_named}
use Rattle.recipe.specs.SecondWalk.{is_defined}
use Rattle.report.specs.declared.types.CompareLine.{CompareLine}
use Rattle.report.specs.declared.types.Compared.{Compared}
use Rattle.report.specs.declared.types.Compared.TheVariants.{Equal, Differs}
use Rattle.report.specs.declared.types.InputLine.{InputLine}
use Rattle.report.specs.declared.types.LeftLine.{LeftLine}
use Rattle.report.specs.declared.types.Mark.{Mark}
use Rattle.report.specs.declared.types.Report.{Report}
use Rattle.report.specs.declared.types.StageLine.{StageLine}
use Rattle.report.specs.Marks.{is_mark_of}
use Rattle.audit_rules.specs.Bench.{all_equal, is_equal}
use Rattle.audit_rules.specs.Contents.{Contents, box_of, check_language, check_of, content, program_of, source_check, text_of}
use Rattle.audit_rules.specs.SourceCheck.Checks.{check, checked, differs, first_other_item, hex_value, items_against, joined_files, m1_value, same_item, same_kind}
use Rattle.audit_rules.specs.Stages.{output_of}
use Rattle.wheeler.proofs.Items.{no-other-item}
use Rattle.verifier.specs.declared.part.Part.{Part}
use Rattle.verifier.specs.declared.part.Part.TheVariants as part
use Rattle.verifier.specs.Faults.{checked_artefact, compare_fault, fault_after_stage, first_fault, first_of_both, has_left, inputs_fault, is_at, is_header, line_place, made_as, names_compared, names_inputs, names_left, names_stages, recorded, replayed, same_language, says, size_of, stages_fault, with_artefact, wrong_line}
use Rattle.verifier.specs.TrueReport.{AreTrueInputs, AreTrueStages, Compares, HasItems, IsOfSource, IsTrueCompare, IsTrueFile, IsTrueStage, IsYes, Marks, Denotes, TrueReport}
use Rattle.verifier.proofs.DoneStages.{judged, run-judged, some-step}
use Rattle.verifier.proofs.MarkTests.{both, language-Decides, mark-Decides}
use Rattle.verifier.proofs.OneReport.{Header, at_first, header-is, is-header, no-wrong-line}
use Rattle.verifier.proofs.Rightness.{check-is, no-difference}

-- ---- marks and files

changed : {P Q : Type 0} (a : Bool) → Decides a P → (P → Q) → (Q → P) → Decides a Q
changed a p to from = (λ t. to (p.0 t), λ q. p.1 (from q))

marks-Decides : (mark : Mark) (bytes : List ℕ) → Decides (is_mark_of mark bytes) (Marks mark bytes)
marks-Decides mark bytes =
    changed (is_mark_of mark bytes) (mark-Decides mark bytes)
    (λ e. record { count = ap (λ (m : Mark). m.length) e; digest = ap (λ (m : Mark). m.digest.0) e })
    (λ m. λ i. record { length = m.count i; digest = record { 0 = m.digest i } })

names-Decides : (lines : List LeftLine) (files : List (List ℕ × List ℕ)) → Decides (names_left lines files) (AllZip IsTrueFile lines files)
names-Decides [] [] = (λ t. tt, λ e. refl)
names-Decides [] (file ∷ files) = (λ t. absurd cc, λ e. absurd e)
names-Decides (line ∷ lines) [] = (λ t. absurd cc, λ e. absurd e)
names-Decides (line ∷ lines) (file ∷ files) =
    changed (bytes_eq line.name file.0 && is_mark_of line.mark file.1 && names_left lines files)
    (both (bytes_eq line.name file.0 && is_mark_of line.mark file.1) (names_left lines files)
    (both (bytes_eq line.name file.0) (is_mark_of line.mark file.1) (bytes_eq-Decides line.name file.0) (marks-Decides line.mark file.1)) (names-Decides lines files))
    (λ h. (record { name = h.0.0; mark = h.0.1 }, h.1))
    (λ h. ((h.0.name, h.0.mark), h.1))

-- what a run left is what the line says
record LeavesTrue (line : StageLine) (world : World) : Type 0 where
  stream1 : Marks line.stream1 world.stream1
  stream2 : Marks line.stream2 world.stream2
  files : AllZip IsTrueFile line.left (left world)

leaves-Decides : (line : StageLine) (world : World) → Decides (has_left line world) (LeavesTrue line world)
unfolding has_left
leaves-Decides line world =
    changed (is_mark_of line.stream1 world.stream1 && is_mark_of line.stream2 world.stream2 && names_left line.left (left world))
    (both (is_mark_of line.stream1 world.stream1 && is_mark_of line.stream2 world.stream2) (names_left line.left (left world))
    (both (is_mark_of line.stream1 world.stream1) (is_mark_of line.stream2 world.stream2) (marks-Decides line.stream1 world.stream1) (marks-Decides line.stream2 world.stream2))
    (names-Decides line.left (left world)))
    (λ h. record { stream1 = h.0.0; stream2 = h.0.1; files = h.1 })
    (λ l. ((l.stream1, l.stream2), l.files))

-- ---- inputs

inputs-true : (number : ℕ) (rows : List Input) (inputs : List (List ℕ)) (lines : List InputLine) → names_inputs rows lines ≡ true
    → inputs_fault number inputs lines ≡ None → length inputs ≡ length rows → AreTrueInputs rows inputs lines
inputs-true number [] [] [] named none counted = tt
inputs-true number [] (bytes ∷ inputs) lines named none counted = absurd (omega (arith, counted))
inputs-true number [] [] (line ∷ lines) named none counted = absurd cc
inputs-true number (row ∷ rows) [] lines named none counted = absurd (omega (arith, counted))
inputs-true number (row ∷ rows) (bytes ∷ inputs) [] named none counted = absurd cc
inputs-true number (row ∷ rows) (bytes ∷ inputs) (line ∷ lines) named none counted =
    by_test (is_mark_of line.mark bytes) refl none (λ later. inputs-true (number + 1) rows inputs lines parts.1 later (omega (arith, counted))) where
      parts : (bytes_eq row.name line.name ≡ true) × (names_inputs rows lines ≡ true)
      parts = and_parts (bytes_eq row.name line.name) (names_inputs rows lines) named

      by_test : (b : Bool) → is_mark_of line.mark bytes ≡ b → (if b then inputs_fault (number + 1) inputs lines else Some (part.Input, number)) ≡ None
          → (inputs_fault (number + 1) inputs lines ≡ None → AreTrueInputs rows inputs lines) → AreTrueInputs (row ∷ rows) (bytes ∷ inputs) (line ∷ lines)
      by_test true mark none later =
          (record { name = sym ((bytes_eq-Decides row.name line.name).0 parts.0); mark = (marks-Decides line.mark bytes).0 mark }, later none)
      by_test false mark none later = absurd cc

true-names : (rows : List Input) (inputs : List (List ℕ)) (lines : List InputLine) → AreTrueInputs rows inputs lines → names_inputs rows lines ≡ true
true-names [] [] [] are = refl
true-names [] [] (line ∷ lines) are = absurd are
true-names [] (bytes ∷ inputs) [] are = absurd are
true-names [] (bytes ∷ inputs) (line ∷ lines) are = absurd are
true-names (row ∷ rows) [] [] are = absurd are
true-names (row ∷ rows) [] (line ∷ lines) are = absurd are
true-names (row ∷ rows) (bytes ∷ inputs) [] are = absurd are
true-names (row ∷ rows) (bytes ∷ inputs) (line ∷ lines) are =
    and_from (bytes_eq row.name line.name) (names_inputs rows lines) ((bytes_eq-Decides row.name line.name).1 (sym are.0.name)) (true-names rows inputs lines are.1)

true-inputs : (number : ℕ) (rows : List Input) (inputs : List (List ℕ)) (lines : List InputLine) → AreTrueInputs rows inputs lines
    → inputs_fault number inputs lines ≡ None
true-inputs number [] [] [] are = refl
true-inputs number [] [] (line ∷ lines) are = absurd are
true-inputs number [] (bytes ∷ inputs) [] are = absurd are
true-inputs number [] (bytes ∷ inputs) (line ∷ lines) are = absurd are
true-inputs number (row ∷ rows) [] [] are = absurd are
true-inputs number (row ∷ rows) [] (line ∷ lines) are = absurd are
true-inputs number (row ∷ rows) (bytes ∷ inputs) [] are = absurd are
true-inputs number (row ∷ rows) (bytes ∷ inputs) (line ∷ lines) are =
    ap (λ b. if b then inputs_fault (number + 1) inputs lines else Some (part.Input, number)) ((marks-Decides line.mark bytes).1 are.0.mark)
    ∙ true-inputs (number + 1) rows inputs lines are.1

-- ---- a check

kind-same : (j : Kind) → same_kind j j ≡ true
kind-same I = refl
kind-same B = refl
kind-same J = refl
kind-same U = refl

name-same : (x : List ℕ) → bytes_eq x x ≡ true
name-same x = (bytes_eq-Decides x x).1 refl

item-same : (x : Item) → same_item x x ≡ true
unfolding same_item
item-same (item.Byte a) = eq-eqb a a refl
item-same (item.Label x) = name-same x
item-same (item.Word a j x) =
    and_from (a == a && same_kind j j) (bytes_eq x x) (and_from (a == a) (same_kind j j) (eq-eqb a a refl) (kind-same j)) (name-same x)
item-same (item.Rel x) = name-same x
item-same (item.Gap x z) = and_from (bytes_eq x x) (bytes_eq z z) (name-same x) (name-same z)
item-same (item.Abs x) = name-same x
item-same item.Pad = refl

same-items : (xs : List Item) → first_other_item xs xs ≡ None
same-items [] = refl
same-items (x ∷ xs) =
    ap (λ b. cond b (option_map suc (first_other_item xs xs)) (Some 0)) (item-same x) ∙ ap (option_map suc) (same-items xs)

nothing-wrong : (o : Option ℕ) → differs o ≡ None → o ≡ None
nothing-wrong None is = refl
nothing-wrong (Some k) is = absurd cc

hex-right : (meant : Result (List ℕ) HexRefusal) (made : List ℕ) → checked (hex_value meant) made ≡ None → meant ≡ Ok made
hex-right (Err why) made is = absurd cc
hex-right (Ok bytes) made is = ap Ok ((bytes_eq-Decides bytes made).0 (sym (no-difference bytes made) ∙ ap is_none is))

right-hex : (meant : Result (List ℕ) HexRefusal) (made : List ℕ) → meant ≡ Ok made → checked (hex_value meant) made ≡ None
right-hex meant made is = ap (λ m. checked (hex_value m) made) is ∙ ap differs (first_difference-same made)

m1-right : (text made : List ℕ) (meant : Result (List Item) M1Refusal) (found : Result (List Item) HexRefusal)
    → expansion_of text ≡ meant → items_of dialect.Hex2 made ≡ found
    → checked (m1_value meant) made ≡ None → HasItems text made
m1-right text made (Err why) found expands reads is = absurd cc
m1-right text made (Ok items) found expands reads is = by_text found reads (ap (items_against items) (sym reads) ∙ is) where
  by_text : (o : Result (List Item) HexRefusal) → items_of dialect.Hex2 made ≡ o → items_against items o ≡ None → HasItems text made
  by_text (Err why) reads is = absurd cc
  by_text (Ok others) reads is =
      let same : items ≡ others = no-other-item items others (nothing-wrong (first_other_item items others) is) in
      record { items = items; expands = expands; reads = reads ∙ ap Ok (sym same) }

right-m1 : (text made : List ℕ) → HasItems text made → checked (m1_value (expansion_of text)) made ≡ None
right-m1 text made has =
    ap (λ m. checked (m1_value m) made) has.expands ∙ ap (items_against has.items) has.reads ∙ ap differs (same-items has.items)

check-denotes : (language : Language) (base : ℕ) (text made : List ℕ) → check language base text made ≡ None → Denotes language base text made
unfolding check
check-denotes Hex0 base text made is = hex-right (value_of hex.Hex0 base text) made is
check-denotes Hex1 base text made is = hex-right (value_of hex.Hex1 base text) made is
check-denotes Hex2 base text made is = hex-right (value_of hex.Hex2 base text) made is
check-denotes M1 base text made is = m1-right text made (expansion_of text) (items_of dialect.Hex2 made) refl refl is

denotes-check : (language : Language) (base : ℕ) (text made : List ℕ) → Denotes language base text made → check language base text made ≡ None
unfolding check
denotes-check Hex0 base text made is = right-hex (value_of hex.Hex0 base text) made is
denotes-check Hex1 base text made is = right-hex (value_of hex.Hex1 base text) made is
denotes-check Hex2 base text made is = right-hex (value_of hex.Hex2 base text) made is
denotes-check M1 base text made is = right-m1 text made is

-- the text of a source's files
abbrev files_of : RecipeContents → Contents → Source → List ℕ
files_of recipe before source = joined_files (map (content recipe before) source.files)

check-by : (recipe : RecipeContents) (before : Contents) (stage : Stage) (name : List ℕ) (source : Source) (language : Language) (made : List ℕ)
    → stage.check ≡ Some name → source_named recipe.sources name ≡ Some source → source.lang ≡ Defined language
    → check_of recipe before stage made ≡ check language source.base (files_of recipe before source) made
unfolding text_of
check-by recipe before stage name source language made named found defined = check-is recipe before stage name source language made named found defined

-- what a check names is there
pub record HasSource (recipe : RecipeContents) (name : List ℕ) : Type 0 where
  pub source : Source
  pub found : source_named recipe.sources name ≡ Some source
  pub language : Language
  pub defined : source.lang ≡ Defined language

abbrev ChecksKept : RecipeContents → Stage → Type 0
ChecksKept recipe stage = (name : List ℕ) → stage.check ≡ Some name → HasSource recipe name

checks-kept : (recipe : RecipeContents) → IsRecipe recipe → All (ChecksKept recipe) recipe.stages
checks-kept recipe ok k d less =
    λ name named. by_check (get_or recipe.stages k d).check name named (ok.stages k (get_or recipe.stages k d) (slice_get-get_or recipe.stages k d less)).check where
      by_lang : (name : List ℕ) (source : Source) → source_named recipe.sources name ≡ Some source → (lang : SourceLanguage) → source.lang ≡ lang
          → is_defined lang ≡ true → HasSource recipe name
      by_lang name source found (Defined language) defined is = record { source = source; found = found; language = language; defined = defined }
      by_lang name source found Other defined is = absurd cc

      by_check : (o : Option (List ℕ)) (name : List ℕ) → o ≡ Some name → IsCheck recipe (take k recipe.stages) o → HasSource recipe name
      by_check None name named is = absurd cc
      by_check (Some other) name named is =
          subst (HasSource recipe) (same_Some other name named) (by_lang other is.0 is.1 is.0.lang refl is.2.defined)

check-source : (recipe : RecipeContents) (before : Contents) (stage : Stage) (made : List ℕ) → ChecksKept recipe stage → check_of recipe before stage made ≡ None
    → (name : List ℕ) → stage.check ≡ Some name → IsOfSource recipe before name made
check-source recipe before stage made kept right name named =
    let has = kept name named in
    record {
      source = has.source;
      found = has.found;
      language = has.language;
      defined = has.defined;
      value = check-denotes has.language has.source.base (files_of recipe before has.source) made
          (sym (check-by recipe before stage name has.source has.language made named has.found has.defined) ∙ right);
    }

unchecked : (recipe : RecipeContents) (before : Contents) (stage : Stage) (made : List ℕ) → stage.check ≡ None → check_of recipe before stage made ≡ None
unfolding check_of
unchecked recipe before stage made none = ap (λ o. source_check recipe before o made) (no-source none) where
  no-source : stage.check ≡ None → option_and_then (source_named recipe.sources) stage.check ≡ None
  no-source e = ap (option_and_then (source_named recipe.sources)) e

source-check : (recipe : RecipeContents) (before : Contents) (stage : Stage) (made : List ℕ)
    → ((name : List ℕ) → stage.check ≡ Some name → IsOfSource recipe before name made) → check_of recipe before stage made ≡ None
source-check recipe before stage made of = by_check stage.check refl where
  by_check : (o : Option (List ℕ)) → stage.check ≡ o → check_of recipe before stage made ≡ None
  by_check None at = unchecked recipe before stage made at
  by_check (Some name) at =
      let is = of name at in
      check-by recipe before stage name is.source is.language made at is.found is.defined
      ∙ denotes-check is.language is.source.base (files_of recipe before is.source) made is.value

-- ---- a stage

replayed-true : (recipe : RecipeContents) (before : Contents) (stage : Stage) (line : StageLine) (made : List ℕ) → ChecksKept recipe stage
    → bytes_eq stage.name line.name ≡ true → same_language (check_language recipe stage) line.checked ≡ true
    → replayed recipe before stage line ≡ Ok made → IsTrueStage recipe before stage line made
replayed-true recipe before stage line made kept named language is =
    let j = judged recipe before stage line made is in
    let leaves = (leaves-Decides line j.world).0 j.artefact.left in
    record {
      name = sym ((bytes_eq-Decides stage.name line.name).0 named);
      world = j.world;
      run = record { start = j.run.guest; last = j.run.last; starts = j.run.started; ends = j.run.ended; leaves = j.run.leaves };
      within = j.run.within;
      stream1 = leaves.stream1;
      stream2 = leaves.stream2;
      files = leaves.files;
      artefact = j.artefact.there;
      mark = (marks-Decides line.made made).0 j.artefact.mark;
      together = j.artefact.small;
      language = sym ((language-Decides (check_language recipe stage) line.checked).0 language);
      checked = check-source recipe before stage made kept j.right;
    }

true-replayed : (recipe : RecipeContents) (before : Contents) (stage : Stage) (line : StageLine) (made : List ℕ) → IsTrueStage recipe before stage line made
    → replayed recipe before stage line ≡ Ok made
unfolding replayed
true-replayed recipe before stage line made is =
    let files : World → Result (List ℕ) Part =
    λ w. or_error part.Files (recorded before stage line w) >>= (λ found. checked_artefact found (check_of recipe before stage found)) in
    let check : Result (List ℕ) Part → Result (List ℕ) Part = λ r. r >>= (λ found. checked_artefact found (check_of recipe before stage found)) in
    ap (λ o. or_error part.Run o >>= files)
    (run-judged (program_of recipe before stage) (box_of recipe before stage) stage.steps line.steps is.world
    (some-step is.run.start (Exited 0, is.run.last) line.steps is.run.ends) is.within is.run)
    ∙ ap (λ b. check (or_error part.Files (if b then made_as before line (out is.world (output_of stage.output)) else None)))
    ((leaves-Decides line is.world).1 (record { stream1 = is.stream1; stream2 = is.stream2; files = is.files }))
    ∙ ap (λ o. check (or_error part.Files (made_as before line o))) is.artefact
    ∙ ap (λ b. check (or_error part.Files (if b then Some made else None)))
    (and_from (is_mark_of line.made made) (nat_le (size_of before + length made) most_artefacts) ((marks-Decides line.made made).1 is.mark)
    (le-leb (size_of before + length made) most_artefacts is.together))
    ∙ ap (checked_artefact made) (source-check recipe before stage made is.checked)

-- ---- all stages

stages-true : (recipe : RecipeContents) (last : Contents → Option (Part × ℕ)) (before : Contents) (stages : List Stage) (lines : List StageLine)
    → All (ChecksKept recipe) stages → names_stages recipe stages lines ≡ true → stages_fault recipe last before stages lines ≡ None
    → (all : Contents) × AreTrueStages recipe before stages lines all × (last all ≡ None)
stages-true recipe last before [] [] kept named is = (before, refl, is)
stages-true recipe last before [] (line ∷ lines) kept named is = absurd cc
stages-true recipe last before (stage ∷ stages) [] kept named is = absurd cc
stages-true recipe last before (stage ∷ stages) (line ∷ lines) kept named is =
    by_replay (replayed recipe before stage line) refl is
    (λ next none. stages-true recipe last next stages lines (All-tail (ChecksKept recipe) stage stages kept) rest.1 none) where
      rest : ((bytes_eq stage.name line.name && same_language (check_language recipe stage) line.checked) ≡ true) × (names_stages recipe stages lines ≡ true)
      rest = and_parts (bytes_eq stage.name line.name && same_language (check_language recipe stage) line.checked) (names_stages recipe stages lines) named

      here : (bytes_eq stage.name line.name ≡ true) × (same_language (check_language recipe stage) line.checked ≡ true)
      here = and_parts (bytes_eq stage.name line.name) (same_language (check_language recipe stage) line.checked) rest.0

      by_replay : (r : Result (List ℕ) Part) → replayed recipe before stage line ≡ r
          → fault_after_stage (length before.artefacts + 1) r (λ made. stages_fault recipe last (with_artefact before made) stages lines) ≡ None
          → ((next : Contents) → stages_fault recipe last next stages lines ≡ None → (all : Contents) × AreTrueStages recipe next stages lines all × (last all ≡ None))
          → (all : Contents) × AreTrueStages recipe before (stage ∷ stages) (line ∷ lines) all × (last all ≡ None)
      by_replay (Err why) at is later = absurd cc
      by_replay (Ok made) at is later =
          let more = later (with_artefact before made) is in
          (more.0, (made, replayed-true recipe before stage line made (All-head (ChecksKept recipe) stage stages kept) here.0 here.1 at, more.1), more.2)

true-lines : (recipe : RecipeContents) (before : Contents) (stages : List Stage) (lines : List StageLine) (all : Contents) → AreTrueStages recipe before stages lines all
    → names_stages recipe stages lines ≡ true
true-lines recipe before [] [] all are = refl
true-lines recipe before [] (line ∷ lines) all are = absurd are
true-lines recipe before (stage ∷ stages) [] all are = absurd are
true-lines recipe before (stage ∷ stages) (line ∷ lines) all are =
    and_from (bytes_eq stage.name line.name && same_language (check_language recipe stage) line.checked) (names_stages recipe stages lines)
    (and_from (bytes_eq stage.name line.name) (same_language (check_language recipe stage) line.checked)
    ((bytes_eq-Decides stage.name line.name).1 (sym are.1.name)) ((language-Decides (check_language recipe stage) line.checked).1 (sym are.1.language)))
    (true-lines recipe (with_artefact before are.0) stages lines all are.2)

true-stages : (recipe : RecipeContents) (last : Contents → Option (Part × ℕ)) (before : Contents) (stages : List Stage) (lines : List StageLine) (all : Contents)
    → AreTrueStages recipe before stages lines all → last all ≡ None → stages_fault recipe last before stages lines ≡ None
true-stages recipe last before [] [] all are none = ap last (sym are) ∙ none
true-stages recipe last before [] (line ∷ lines) all are none = absurd are
true-stages recipe last before (stage ∷ stages) [] all are none = absurd are
true-stages recipe last before (stage ∷ stages) (line ∷ lines) all are none =
    ap (λ r. fault_after_stage (length before.artefacts + 1) r (λ made. stages_fault recipe last (with_artefact before made) stages lines))
    (true-replayed recipe before stage line are.0 are.1)
    ∙ true-stages recipe last (with_artefact before are.0) stages lines all are.2 none

-- ---- comparisons

first-at : (a b : List ℕ) (k : ℕ) → first_difference a b ≡ Some k → IsFirstDifference a b k
first-at [] [] k is = absurd cc
first-at [] (y ∷ ys) k is = subst (IsFirstDifference [] (y ∷ ys)) (same_Some 0 k is) (record { same_before = refl; differs_there = λ e. none-some y e })
first-at (x ∷ xs) [] k is = subst (IsFirstDifference (x ∷ xs) []) (same_Some 0 k is) (record { same_before = refl; differs_there = λ e. none-some x (sym e) })
first-at (x ∷ xs) (y ∷ ys) k is = by_test (x == y) refl is (first-at xs ys) where
  by_rest : (o : Option ℕ) → first_difference xs ys ≡ o → option_map suc o ≡ Some k → x ≡ y → ((j : ℕ) → first_difference xs ys ≡ Some j → IsFirstDifference xs ys j)
      → IsFirstDifference (x ∷ xs) (y ∷ ys) k
  by_rest None at is same later = absurd cc
  by_rest (Some j) at is same later =
      let rest = later j at in
      subst (IsFirstDifference (x ∷ xs) (y ∷ ys)) (same_Some (suc j) k is)
      (record { same_before = ap₂ (λ h t. h ∷ t) same rest.same_before; differs_there = rest.differs_there })

  by_test : (b : Bool) → (x == y) ≡ b → cond b (option_map suc (first_difference xs ys)) (Some 0) ≡ Some k
      → ((j : ℕ) → first_difference xs ys ≡ Some j → IsFirstDifference xs ys j) → IsFirstDifference (x ∷ xs) (y ∷ ys) k
  by_test true same is later = by_rest (first_difference xs ys) refl is (eqb-true x y same) later
  by_test false same is later =
      subst (IsFirstDifference (x ∷ xs) (y ∷ ys)) (same_Some 0 k is)
      (record { same_before = refl; differs_there = λ e. let equal : (x == y) ≡ true = eq-eqb x y (same_Some x y e) in absurd cc })

at-is : (offset : ℕ) (o : Option ℕ) → is_at offset o ≡ true → o ≡ Some offset
at-is offset None is = absurd cc
at-is offset (Some found) is = ap Some (sym (eqb-true offset found is))

is-at : (offset : ℕ) (o : Option ℕ) → o ≡ Some offset → is_at offset o ≡ true
is-at offset o is = ap (is_at offset) is ∙ eq-eqb offset offset refl

number-Decides : (x y : ℕ) → Decides (x == y) (x ≡ y)
number-Decides x y = (eqb-true x y, eq-eqb x y)

says-Decides : (result : Compared) (made binary : List ℕ) → Decides (says result made binary) (Compares result made binary)
says-Decides (Equal count) made binary =
    both (bytes_eq made binary) (count == length made) (bytes_eq-Decides made binary) (number-Decides count (length made))
says-Decides (Differs offset ours theirs) made binary =
    changed (is_at offset (first_difference made binary) && ours == length made && theirs == length binary)
    (both (is_at offset (first_difference made binary) && ours == length made) (theirs == length binary)
    (both (is_at offset (first_difference made binary)) (ours == length made) first (number-Decides ours (length made))) (number-Decides theirs (length binary)))
    (λ h. (h.0.0, h.0.1, h.1))
    (λ h. ((h.0, h.1), h.2)) where
      first : Decides (is_at offset (first_difference made binary)) (IsFirstDifference made binary offset)
      first = (
        λ t. first-at made binary offset (at-is offset (first_difference made binary) t),
        λ d. is-at offset (first_difference made binary) (first_difference-at made binary offset d),
      )

lines-true : (recipe : RecipeContents) (all : Contents) (number : ℕ) (stages : List (List ℕ)) (lines : List CompareLine)
    → names_compared recipe.compare.binary stages lines ≡ true → wrong_line recipe all number lines ≡ None → AllZip (IsTrueCompare recipe all) stages lines
lines-true recipe all number [] [] named none = tt
lines-true recipe all number [] (line ∷ lines) named none = absurd cc
lines-true recipe all number (stage ∷ stages) [] named none = absurd cc
lines-true recipe all number (stage ∷ stages) (line ∷ lines) named none =
    by_test (says line.result (content recipe all line.stage) (content recipe all line.binary)) refl none (lines-true recipe all (number + 1) stages lines rest.1) where
      rest : ((bytes_eq stage line.stage && bytes_eq recipe.compare.binary line.binary) ≡ true) × (names_compared recipe.compare.binary stages lines ≡ true)
      rest = and_parts (bytes_eq stage line.stage && bytes_eq recipe.compare.binary line.binary) (names_compared recipe.compare.binary stages lines) named

      here : (bytes_eq stage line.stage ≡ true) × (bytes_eq recipe.compare.binary line.binary ≡ true)
      here = and_parts (bytes_eq stage line.stage) (bytes_eq recipe.compare.binary line.binary) rest.0

      by_test : (b : Bool) → says line.result (content recipe all line.stage) (content recipe all line.binary) ≡ b
          → (if b then wrong_line recipe all (number + 1) lines else Some number) ≡ None
          → (wrong_line recipe all (number + 1) lines ≡ None → AllZip (IsTrueCompare recipe all) stages lines)
          → AllZip (IsTrueCompare recipe all) (stage ∷ stages) (line ∷ lines)
      by_test false is none later = absurd cc
      by_test true is none later =
          let own = (bytes_eq-Decides stage line.stage).0 here.0 in
          let audited = (bytes_eq-Decides recipe.compare.binary line.binary).0 here.1 in
          let found = (says-Decides line.result (content recipe all line.stage) (content recipe all line.binary)).0 is in (
            record {
              name = sym own;
              audited = sym audited;
              says = subst (λ (p : List ℕ × List ℕ). Compares line.result (content recipe all p.0) (content recipe all p.1)) (λ i. (sym own i, sym audited i)) found;
            },
            later none,
          )

true-compared : (recipe : RecipeContents) (all : Contents) (stages : List (List ℕ)) (lines : List CompareLine) → AllZip (IsTrueCompare recipe all) stages lines
    → names_compared recipe.compare.binary stages lines ≡ true
true-compared recipe all [] [] are = refl
true-compared recipe all [] (line ∷ lines) are = absurd are
true-compared recipe all (stage ∷ stages) [] are = absurd are
true-compared recipe all (stage ∷ stages) (line ∷ lines) are =
    and_from (bytes_eq stage line.stage && bytes_eq recipe.compare.binary line.binary) (names_compared recipe.compare.binary stages lines)
    (and_from (bytes_eq stage line.stage) (bytes_eq recipe.compare.binary line.binary) ((bytes_eq-Decides stage line.stage).1 (sym are.0.name))
    ((bytes_eq-Decides recipe.compare.binary line.binary).1 (sym are.0.audited)))
    (true-compared recipe all stages lines are.1)

no-wrong : (recipe : RecipeContents) (all : Contents) (number : ℕ) (stages : List (List ℕ)) (lines : List CompareLine) → AllZip (IsTrueCompare recipe all) stages lines
    → wrong_line recipe all number lines ≡ None
no-wrong recipe all number [] [] are = refl
no-wrong recipe all number [] (line ∷ lines) are = absurd are
no-wrong recipe all number (stage ∷ stages) [] are = absurd are
no-wrong recipe all number (stage ∷ stages) (line ∷ lines) are =
    let found = subst (λ (p : List ℕ × List ℕ). Compares line.result (content recipe all p.0) (content recipe all p.1)) (λ i. (sym are.0.name i, sym are.0.audited i)) are.0.says in
    ap (λ b. if b then wrong_line recipe all (number + 1) lines else Some number)
    ((says-Decides line.result (content recipe all line.stage) (content recipe all line.binary)).1 found)
    ∙ no-wrong recipe all (number + 1) stages lines are.1

-- ---- the report

abbrev stages-of : RecipeContents → List (List ℕ) → Report → Option (Part × ℕ)
stages-of recipe inputs report = stages_fault recipe (compare_fault recipe report.form report.compare) (at_first inputs) recipe.stages report.stages

pub fault-true : (recipe : RecipeContents) (inputs : List (List ℕ)) (report : Report) → IsRecipe recipe → length inputs ≡ length recipe.inputs
    → first_fault recipe inputs report ≡ None → TrueReport recipe inputs report
unfolding first_fault
fault-true recipe inputs report ok counted is = by_header (is_header recipe report) refl is where
  by_inputs : (o : Option (Part × ℕ)) → inputs_fault 1 inputs report.inputs ≡ o → Header recipe report → first_of_both o (stages-of recipe inputs report) ≡ None
      → TrueReport recipe inputs report
  by_inputs (Some fault) at header is = absurd cc
  by_inputs None at header is =
      let after = stages-true recipe (compare_fault recipe report.form report.compare) (at_first inputs) recipe.stages report.stages (checks-kept recipe ok) header.stages is in
      record {
        form = sym (eqb-true recipe.format report.form header.form);
        digest = λ i. record { 0 = sym ((bytes_eq-Decides recipe.digest.0 report.recipe.0).0 header.digest) i };
        given = inputs-true 1 recipe.inputs inputs report.inputs header.inputs at counted;
        all = after.0;
        stages = after.1;
        compares = lines-true recipe after.0 1 recipe.compare.stages report.compare header.compared (no-wrong-line recipe report.form report.compare after.0 after.2);
      }

  by_header : (b : Bool) → is_header recipe report ≡ b → (if b then first_of_both (inputs_fault 1 inputs report.inputs) (stages-of recipe inputs report) else Some (part.Header, 0)) ≡ None
      → TrueReport recipe inputs report
  by_header true header is = by_inputs (inputs_fault 1 inputs report.inputs) refl (header-is recipe report header) is
  by_header false header is = absurd cc

pub true-fault : (recipe : RecipeContents) (inputs : List (List ℕ)) (report : Report) → TrueReport recipe inputs report → first_fault recipe inputs report ≡ None
unfolding first_fault
true-fault recipe inputs report is =
    ap (λ b. if b then first_of_both (inputs_fault 1 inputs report.inputs) (stages-of recipe inputs report) else Some (part.Header, 0))
    (is-header recipe report (record {
      form = eq-eqb recipe.format report.form (sym is.form);
      digest = (bytes_eq-Decides recipe.digest.0 report.recipe.0).1 (ap (λ (d : Digest). d.0) (sym is.digest));
      inputs = true-names recipe.inputs inputs report.inputs is.given;
      stages = true-lines recipe (at_first inputs) recipe.stages report.stages is.all is.stages;
      compared = true-compared recipe is.all recipe.compare.stages report.compare is.compares;
    }))
    ∙ ap (λ o. first_of_both o (stages-of recipe inputs report)) (true-inputs 1 recipe.inputs inputs report.inputs is.given)
    ∙ true-stages recipe (compare_fault recipe report.form report.compare) (at_first inputs) recipe.stages report.stages is.all is.stages
    (ap (option_map (λ number. (part.Compare, line_place report.form number))) (no-wrong recipe is.all 1 recipe.compare.stages report.compare is.compares))

-- ---- a yes

module _ (recipe : RecipeContents) (all : Contents) where
  abbrev IsEqual : List ℕ → Type 0
  IsEqual name = content recipe all name ≡ content recipe all recipe.compare.binary

  lines-equal : (stages : List (List ℕ)) (lines : List CompareLine) → AllZip (IsTrueCompare recipe all) stages lines → all_equal lines ≡ true → All IsEqual stages
  lines-equal [] [] are same = All-nil IsEqual
  lines-equal [] (line ∷ lines) are same = absurd are
  lines-equal (stage ∷ stages) [] are same = absurd are
  lines-equal (stage ∷ stages) (line ∷ lines) are same =
      let parts = and_parts (is_equal line.result) (all_equal lines) same in
      All-cons IsEqual stage stages (by_result line.result parts.0 are.0.says) (lines-equal stages lines are.1 parts.1)
    where
      by_result : (result : Compared) → is_equal result ≡ true → Compares result (content recipe all stage) (content recipe all recipe.compare.binary) → IsEqual stage
      by_result (Equal count) is says = says.0
      by_result (Differs offset ours theirs) is says = absurd cc

  equal-lines : (stages : List (List ℕ)) (lines : List CompareLine) → AllZip (IsTrueCompare recipe all) stages lines → All IsEqual stages → all_equal lines ≡ true
  equal-lines [] [] are each = refl
  equal-lines [] (line ∷ lines) are each = absurd are
  equal-lines (stage ∷ stages) [] are each = absurd are
  equal-lines (stage ∷ stages) (line ∷ lines) are each =
      and_from (is_equal line.result) (all_equal lines) (by_result line.result are.0.says (All-head IsEqual stage stages each))
      (equal-lines stages lines are.1 (All-tail IsEqual stage stages each))
    where
      by_result : (result : Compared) → Compares result (content recipe all stage) (content recipe all recipe.compare.binary) → IsEqual stage → is_equal result ≡ true
      by_result (Equal count) says same = refl
      by_result (Differs offset ours theirs) says same = absurd (says.0.differs_there (ap (λ bytes. slice_get bytes offset) same))

pub fault-yes : (recipe : RecipeContents) (inputs : List (List ℕ)) (report : Report) → IsRecipe recipe → length inputs ≡ length recipe.inputs
    → (first_fault recipe inputs report ≡ None) × (all_equal report.compare ≡ true) → IsYes recipe inputs report
fault-yes recipe inputs report ok counted is =
    let true_report = fault-true recipe inputs report ok counted is.0 in
    record { is_true = true_report; equal = lines-equal recipe true_report.all recipe.compare.stages report.compare true_report.compares is.1 }

pub yes-fault : (recipe : RecipeContents) (inputs : List (List ℕ)) (report : Report) → IsYes recipe inputs report
    → (first_fault recipe inputs report ≡ None) × (all_equal report.compare ≡ true)
yes-fault recipe inputs report is =
    (true-fault recipe inputs report is.is_true, equal-lines recipe is.is_true.all recipe.compare.stages report.compare is.is_true.compares is.equal)
