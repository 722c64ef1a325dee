-- What the parts of a stage settle: two audits in which they are the same make the same of it.
use Rattle.std.proofs.Common.{◌≡◌, ℕ, Bool, true, false, cond, Option, None, Some, Ok, List, [], ◌∷◌, map, refl, sym, ap, ◌∙◌, subst, All}
use Rattle.std.specs.Prelude.{is_none, option_and_then}
use Rattle.std.specs.FinMap as finite
use Rattle.std.specs.List.{fold}
use Rattle.std.proofs.lemmas.List.Elements.{All-head, All-tail}
use Rattle.std.proofs.lemmas.Option.{same_Some, cond_some}
use Rattle.std.proofs.lemmas.Slice.Eq.{bytes_eq-Decides}
use Rattle.ddc_base.specs.declared.languages.Language.TheVariants.{Hex0, Hex1, Hex2, M1}
use Rattle.hex_langs.specs.declared.items.token.Dialect.TheVariants as dialect
use Rattle.hex_langs.specs.Items.Reading.{items_of}
use Rattle.hex_langs.specs.Link.Values.{linked}
use Rattle.m1_lang.specs.Expansion.{expansion_of}
use Rattle.mem_files.specs.Outputs.{out}
use Rattle.guest_run.specs.Program.{ProgramRun}
use Rattle.guest_run.specs.Setting.{FileMap, Setting}
use Rattle.guest_run.proofs.Programs.{one-run}
use Rattle.recipe.specs.declared.contents.RecipeContents.{RecipeContents}
use Rattle.recipe.specs.declared.parts.Source.{Source}
use Rattle.recipe.specs.declared.parts.SourceLanguage.{SourceLanguage}
use Rattle.recipe.specs.declared.parts.SourceLanguage.TheVariants.{Defined, Other}
use Rattle.recipe.specs.declared.parts.Stage.{Stage}
use Rattle.recipe.specs.declared.parts.StageFile.{StageFile}
use Rattle.recipe.specs.Kept.{IsCheck, IsStage}
use Rattle.recipe.specs.Lookups.{hex_check, is_hex, source_named}
use Rattle.recipe.specs.SecondWalk.{is_defined}
use Rattle.audit_rules.specs.SourceCheck.Checks.{hex_value, joined_files}
use Rattle.audit_rules.specs.Contents.{Contents, box_of, check_language, content, defined, program_of, text_of, with_stage_file}
use Rattle.audit_rules.specs.Stages.{output_of}
use Rattle.wheeler.specs.AllContents.{text_by, text_named}
use Rattle.wheeler.specs.Checked.{HasItemsOf}
use Rattle.wheeler.specs.Values.{binary_in, binary_of, bytes_of_value}
use Rattle.wheeler.proofs.Items.{checked-items}
use Rattle.wheeler.proofs.Ran.{Ran}
use Rattle.wheeler.proofs.Values.{checked-value}
use Rattle.audit_chain.specs.declared.rests.basis_part.BasisPart.{BasisPart}
use Rattle.audit_chain.specs.declared.rests.basis_part.BasisPart.TheVariants.{Reads, Links, Runs}
use Rattle.audit_chain.specs.Rests.Walk.{check_parts, file_part, is_bytes, is_free, is_free_by, is_part_named, parts_by, parts_of, source_parts}

-- the test that a part passes itself
abbrev pub own_test : BasisPart → BasisPart → Bool
own_test (Reads name) = is_bytes name
own_test (Links name) = is_part_named name
own_test (Runs name) = is_bytes name

pub own-passes : (p : BasisPart) → own_test p p ≡ true
own-passes (Reads name) = (bytes_eq-Decides name name).1 refl
own-passes (Links name) = (bytes_eq-Decides name name).1 refl
own-passes (Runs name) = (bytes_eq-Decides name name).1 refl

module _ (recipe : RecipeContents) (all other : Contents) where
  abbrev pub Same : List ℕ → Type 0
  Same name = content recipe all name ≡ content recipe other name

  abbrev pub Alike : List ℕ → Type 0
  Alike name = items_of dialect.Hex2 (content recipe all name) ≡ items_of dialect.Hex2 (content recipe other name)

  abbrev pub PartSame : BasisPart → Type 0
  PartSame (Reads name) = Same name
  PartSame (Links name) = Alike name
  PartSame (Runs name) = Same name

  same-names : (names : List (List ℕ)) → All PartSame (map Reads names) → map (content recipe all) names ≡ map (content recipe other) names
  same-names [] same = refl
  same-names (name ∷ names) same =
      λ i. All-head PartSame (Reads name) (map Reads names) same i ∷ same-names names (All-tail PartSame (Reads name) (map Reads names) same) i

  same-fold : (files : List StageFile) (held : FileMap) → All PartSame (map file_part files)
      → fold (with_stage_file recipe all) held files ≡ fold (with_stage_file recipe other) held files
  same-fold [] held same = refl
  same-fold (file ∷ files) held same =
      ap (λ bytes. fold (with_stage_file recipe all) (finite.insert held file.path bytes) files) (All-head PartSame (file_part file) (map file_part files) same)
      ∙ same-fold files (finite.insert held file.path (content recipe other file.from)) (All-tail PartSame (file_part file) (map file_part files) same)

  same-box : (stage : Stage) → All PartSame (map file_part stage.files) → box_of recipe all stage ≡ box_of recipe other stage
  unfolding box_of
  same-box stage same =
      let files = same-fold stage.files finite.empty same in
      λ i. record { args = stage.args; env = stage.env; files = files i; heap = stage.heap }

  -- ---- a checked stage

  same-binary : (lang : SourceLanguage) (base : ℕ) (files : List (List ℕ)) → All PartSame (source_parts lang files)
      → binary_in lang base (map (content recipe all) files) ≡ binary_in lang base (map (content recipe other) files)
  same-binary (Defined Hex0) base files same = ap (binary_in (Defined Hex0) base) (same-names files same)
  same-binary (Defined Hex1) base files same = ap (binary_in (Defined Hex1) base) (same-names files same)
  same-binary (Defined Hex2) base [] same = refl
  same-binary (Defined Hex2) base (f ∷ []) same = ap (λ items. bytes_of_value (hex_value (linked base items))) (All-head PartSame (Links f) [] same)
  same-binary (Defined Hex2) base (f ∷ g ∷ files) same = ap (binary_in (Defined Hex2) base) (same-names (f ∷ g ∷ files) same)
  same-binary (Defined M1) base files same = ap (binary_in (Defined M1) base) (same-names files same)
  same-binary Other base files same = refl

  same-value : (source : Source) → All PartSame (source_parts source.lang source.files) → binary_of (text_of recipe all source) ≡ binary_of (text_of recipe other source)
  unfolding binary_of text_of
  same-value source same = same-binary source.lang source.base source.files same

  -- the source of a check
  abbrev pub Named : List ℕ → Source → Type 0
  Named check source = source_named recipe.sources check ≡ Some source

  pub text-is : (contents : Contents) (check : List ℕ) (source : Source) → Named check source → text_named recipe contents check ≡ text_of recipe contents source
  unfolding text_named
  text-is contents check source at = ap (text_by recipe contents) at

  pub found-is : (check found : List ℕ) (source : Source) → Named check source → hex_check recipe.sources check ≡ Some found → check ≡ found
  found-is check found source at is =
      (cond_some (is_hex source.lang) check found
      (sym (ap (option_and_then (λ (s : Source). cond (is_hex s.lang) (Some check) None)) at) ∙ is)).1

  checked-same : (stage : Stage) (check found : List ℕ) (source : Source) → stage.check ≡ Some check → Named check source → hex_check recipe.sources check ≡ Some found
      → All PartSame (source_parts source.lang source.files)
      → Ran recipe all stage (content recipe all stage.name) → Ran recipe other stage (content recipe other stage.name) → Same stage.name
  checked-same stage check found source was at is same one two =
      let mine = checked-value recipe all stage check found (content recipe all stage.name) was is one.right in
      let theirs = checked-value recipe other stage check found (content recipe other stage.name) was is two.right in
      let name = found-is check found source at is in
      let prefix : binary_of (text_named recipe all found) ≡ binary_of (text_of recipe all source) =
      ap (λ n. binary_of (text_named recipe all n)) (sym name) ∙ ap binary_of (text-is all check source at) in
      let back : binary_of (text_named recipe other found) ≡ binary_of (text_of recipe other source) =
      ap (λ n. binary_of (text_named recipe other n)) (sym name) ∙ ap binary_of (text-is other check source at) in
      same_Some (content recipe all stage.name) (content recipe other stage.name) (sym mine ∙ prefix ∙ same-value source same ∙ sym back ∙ theirs)

  -- ---- a stage that is checked in M1

  pub is-m1 : (lang : SourceLanguage) → is_defined lang ≡ true → is_hex lang ≡ false → lang ≡ Defined M1
  is-m1 (Defined Hex0) def hex = absurd cc
  is-m1 (Defined Hex1) def hex = absurd cc
  is-m1 (Defined Hex2) def hex = absurd cc
  is-m1 (Defined M1) def hex = refl
  is-m1 Other def hex = absurd cc

  pub not-hex : (check : List ℕ) (source : Source) → Named check source → hex_check recipe.sources check ≡ None → is_hex source.lang ≡ false
  not-hex check source at is = by (is_hex source.lang) (sym (ap (option_and_then (λ (s : Source). cond (is_hex s.lang) (Some check) None)) at) ∙ is) where
    by : (b : Bool) → cond b (Some check) None ≡ None → b ≡ false
    by true none = absurd cc
    by false none = refl

  pub language-is : (stage : Stage) (check : List ℕ) (source : Source) → stage.check ≡ Some check → Named check source → source.lang ≡ Defined M1
      → check_language recipe stage ≡ Some M1
  unfolding check_language
  language-is stage check source was at is =
      ap (λ o. option_and_then (λ (s : Source). defined s.lang) (option_and_then (source_named recipe.sources) o)) was
      ∙ ap (option_and_then (λ (s : Source). defined s.lang)) at ∙ ap defined is

  m1-files : (source : Source) → source.lang ≡ Defined M1 → All PartSame (source_parts source.lang source.files)
      → map (content recipe all) source.files ≡ map (content recipe other) source.files
  m1-files source is same = same-names source.files (subst (λ l. All PartSame (source_parts l source.files)) is same)

  m1-same : (stage : Stage) (check : List ℕ) (source : Source) → stage.check ≡ Some check → Named check source → source.lang ≡ Defined M1
      → All PartSame (source_parts source.lang source.files)
      → Ran recipe all stage (content recipe all stage.name) → Ran recipe other stage (content recipe other stage.name) → Alike stage.name
  unfolding text_of
  m1-same stage check source was at is same one two =
      let language = language-is stage check source was at is in
      let mine = subst (λ t. HasItemsOf t (content recipe all stage.name)) (text-is all check source at)
      (checked-items recipe all stage check (content recipe all stage.name) was language one.right) in
      let theirs = subst (λ t. HasItemsOf t (content recipe other stage.name)) (text-is other check source at)
      (checked-items recipe other stage check (content recipe other stage.name) was language two.right) in
      let both : Ok mine.items ≡ Ok theirs.items = sym mine.expands ∙ ap (λ files. expansion_of (joined_files files)) (m1-files source is same) ∙ theirs.expands in
      let items : mine.items ≡ theirs.items = cc in
      mine.reads ∙ ap Ok items ∙ sym theirs.reads

  -- ---- an unchecked stage

  ran-same : (stage : Stage) → Same stage.program → All PartSame (map file_part stage.files)
      → Ran recipe all stage (content recipe all stage.name) → Ran recipe other stage (content recipe other stage.name) → Same stage.name
  ran-same stage program files one two =
      let box = same-box stage files in
      let here : ProgramRun (program_of recipe other stage) (box_of recipe other stage) one.step 0 one.world =
      subst (λ (s : Setting). ProgramRun (program_of recipe other stage) s one.step 0 one.world) box
      (subst (λ p. ProgramRun p (box_of recipe all stage) one.step 0 one.world) program one.runs) in
      let world = (one-run (program_of recipe other stage) (box_of recipe other stage) one.step two.step 0 0 one.world two.world here two.runs).2 in
      same_Some (content recipe all stage.name) (content recipe other stage.name)
      (sym one.there ∙ ap (λ w. out w (output_of stage.output)) world ∙ two.there)

  -- ---- any stage

  pub record Settled (stage : Stage) : Type 0 where
    pub bytes : is_free recipe stage ≡ false → Same stage.name
    pub items : is_free recipe stage ≡ true → Alike stage.name

  pub settled : (earlier : List Stage) (stage : Stage) → IsStage recipe earlier stage → All PartSame (parts_of recipe stage)
      → Ran recipe all stage (content recipe all stage.name) → Ran recipe other stage (content recipe other stage.name) → Settled stage
  unfolding parts_of is_free
  settled earlier stage is same one two = by_check stage.check refl is.check same where
    Goal : Type 0
    Goal = Settled stage

    by_hex : (check : List ℕ) (source : Source) → stage.check ≡ Some check → Named check source → is_defined source.lang ≡ true
        → All PartSame (source_parts source.lang source.files) → (o : Option (List ℕ)) → hex_check recipe.sources check ≡ o → Goal
    by_hex check source was at def parts (Some found) hex =
        let free : is_free recipe stage ≡ false = ap (is_free_by recipe) was ∙ ap is_none hex in
        record {
          bytes = λ isnt. checked-same stage check found source was at hex parts one two;
          items = λ is. absurd (let both : false ≡ true = sym free ∙ is in cc);
        }
    by_hex check source was at def parts None hex =
        let free : is_free recipe stage ≡ true = ap (is_free_by recipe) was ∙ ap is_none hex in
        record {
          bytes = λ isnt. absurd (let both : true ≡ false = sym free ∙ isnt in cc);
          items = λ is. m1-same stage check source was at (is-m1 source.lang def (not-hex check source at hex)) parts one two;
        }

    by_check : (o : Option (List ℕ)) → stage.check ≡ o → IsCheck recipe earlier o → All PartSame (parts_by recipe stage o) → Goal
    by_check None was check parts =
        let free : is_free recipe stage ≡ false = ap (is_free_by recipe) was in
        record {
          bytes = λ isnt. ran-same stage (All-head PartSame (Runs stage.program) (map file_part stage.files) parts) (All-tail PartSame (Runs stage.program) (map file_part stage.files) parts) one two;
          items = λ is. absurd (let both : false ≡ true = sym free ∙ is in cc);
        }
    by_check (Some name) was check parts =
        by_hex name check.0 was check.1 check.2.defined (subst (λ o. All PartSame (check_parts o)) check.1 parts) (hex_check recipe.sources name) refl
