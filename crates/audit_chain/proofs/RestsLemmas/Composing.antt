-- Where every stage on the way back is checked, artefacts are composed of the texts.
use Rattle.std.proofs.Common.{◌≡◌, ℕ, zero, suc, ◌&&◌, Bool, true, false, cond, Option, None, Some, is_some, Result, Ok, Err, List, [], ◌∷◌, length, map, take, get_or, refl, sym, ap, ap₂, ◌∙◌, subst, arith, All}
use Rattle.std.specs.Prelude.{IsSome, bytes_eq, is_none, option_and_then, option_map, slice_get}
use Rattle.std.specs.List.{list_any}
use Rattle.std.specs.Option.{option_or}
use Rattle.std.proofs.lemmas.List.{length-take}
use Rattle.std.proofs.lemmas.List.Elements.{All-head, All-tail}
use Rattle.std.proofs.lemmas.Slice.Eq.{bytes_eq-Decides}
use Rattle.ddc_base.specs.declared.languages.Language.{Language}
use Rattle.ddc_base.specs.declared.languages.Language.TheVariants.{Hex0, Hex1, Hex2, M1}
use Rattle.hex_langs.specs.Link.Values.{linked}
use Rattle.recipe.specs.declared.contents.RecipeContents.{RecipeContents}
use Rattle.recipe.specs.declared.parts.Content.{Content}
use Rattle.recipe.specs.declared.parts.Content.TheVariants as content
use Rattle.recipe.specs.declared.parts.Source.{Source}
use Rattle.recipe.specs.declared.parts.SourceLanguage.{SourceLanguage}
use Rattle.recipe.specs.declared.parts.SourceLanguage.TheVariants.{Defined, Other}
use Rattle.recipe.specs.declared.parts.Stage.{Stage}
use Rattle.recipe.specs.Kept.{IsCheck, IsMade, IsRecipe}
use Rattle.recipe.specs.Lookups.{content_named, hex_check, input_at, is_hex, source_named, stage_at}
use Rattle.recipe.specs.SecondWalk.{is_defined}
use Rattle.recipe.proofs.MoreStages.{content_more}
use Rattle.report.specs.declared.types.Report.{Report}
use Rattle.audit_rules.specs.declared.source_check.cause.CheckCause.{CheckCause}
use Rattle.audit_rules.specs.SourceCheck.Checks.{SourceValue, ValueBytes, ValueItems, hex_value, joined_files, m1_value, source_value_of}
use Rattle.audit_rules.specs.Bench.{bench}
use Rattle.audit_rules.specs.Contents.{Contents, bytes_named, content as content_of, text_of}
use Rattle.audit_rules.specs.Valid.{IsInputs}
use Rattle.audit_rules.specs.declared.answer.AuditAnswer.TheVariants.{Completes}
use Rattle.wheeler.specs.AllContents.{all_contents, stage_named, text_named}
use Rattle.wheeler.specs.Checked.{HasItemsOf}
use Rattle.wheeler.specs.Values.{binary_in, binary_of, bytes_of_value}
use Rattle.wheeler.proofs.Directions.{found}
use Rattle.wheeler.proofs.Gathering.{reached}
use Rattle.wheeler.proofs.Items.{checked-items}
use Rattle.wheeler.proofs.Ran.{Ran}
use Rattle.wheeler.proofs.RouteClosed.{IsBelow, element, lower, meant, own-stage, same_element, there, within}
use Rattle.wheeler.proofs.RouteSuffices.{found-at}
use Rattle.wheeler.proofs.Values.{checked-value}
use Rattle.audit_chain.specs.declared.rests.basis_part.BasisPart.{BasisPart}
use Rattle.audit_chain.specs.declared.rests.basis_part.BasisPart.TheVariants.{Reads, Links, Runs}
use Rattle.audit_chain.specs.Rests.Basis.{layout_name, layouts, ran, ran_name}
use Rattle.audit_chain.specs.Rests.Composed.{HasComposed, HasValue, all_bytes, bytes_first, composed_from, of_bytes, of_check, of_files, of_input, of_one, of_source, of_stage, value_there}
use Rattle.audit_chain.specs.Rests.Walk.{bytes_meet, check_parts, is_free, is_free_by, meets, part_name, parts_by, parts_of, source_parts, walk}
use Rattle.audit_chain.proofs.RestsLemmas.Closed.{artefact-low, begins, closed, parts-made}
use Rattle.audit_chain.proofs.RestsLemmas.Settled.{found-is, is-m1, language-is, not-hex, own-passes, own_test, text-is}
use Rattle.audit_chain.proofs.RestsLemmas.Tests.{each-own}
use Rattle.audit_chain.proofs.RestsLemmas.Whole.{bytes-met, none-left}

-- every stage on the way back is checked
abbrev pub AllChecked : RecipeContents → List ℕ → Type 0
AllChecked recipe name = All (λ (stage : Stage). meets (walk recipe name) stage.name ≡ true → is_some stage.check ≡ true) recipe.stages

pub all-checked : (recipe : RecipeContents) → IsRecipe recipe → (name : List ℕ) → ran recipe name ≡ [] → AllChecked recipe name
unfolding ran
all-checked recipe ok name none k d less met =
    let stage = get_or recipe.stages k d in
    let here = none-left recipe ok name (ran_name (walk recipe name)) recipe.stages none k d less in
    by stage.check (sym (ap (λ b. cond (b && is_none stage.check) (Some stage.name) None) met) ∙ here) where
      by : (o : Option (List ℕ)) → cond (is_none o) (Some (get_or recipe.stages k d).name) None ≡ None → is_some o ≡ true
      by None shown = absurd cc
      by (Some check) shown = refl

-- a value of bytes
bytes-value : (r : Result SourceValue CheckCause) (b : List ℕ) → bytes_of_value r ≡ Some b → value_there r ≡ Some (ValueBytes b)
bytes-value (Ok (ValueBytes x)) b is = ap (option_map ValueBytes) is
bytes-value (Ok (ValueItems items)) b is = absurd cc
bytes-value (Err why) b is = absurd cc

module _ (recipe : RecipeContents) (ok : IsRecipe recipe) (inputs : List (List ℕ)) (name : List ℕ) where
  abbrev all : Contents
  all = all_contents recipe inputs

  abbrev made : List ℕ → List ℕ
  made n = content_of recipe all n

  -- what is known of the value of a name
  record Stands (n : List ℕ) (o : Option SourceValue) : Type 0 where
    value : meets (walk recipe name) n ≡ true → (v : SourceValue) × (o ≡ Some v) × HasValue (made n) v
    bytes : bytes_meet (walk recipe name) n ≡ true → o ≡ Some (ValueBytes (made n))

  -- .. and of a part, whose names have these values
  abbrev PartValue : (List ℕ → Option SourceValue) → BasisPart → Type 0
  PartValue earlier (Reads n) = earlier n ≡ Some (ValueBytes (made n))
  PartValue earlier (Links n) = (v : SourceValue) × (earlier n ≡ Some v) × HasValue (made n) v
  PartValue earlier (Runs n) = earlier n ≡ Some (ValueBytes (made n))

  part-value : (earlier : List ℕ → Option SourceValue) (p : BasisPart) → list_any (own_test p) (walk recipe name) ≡ true
      → Stands (part_name p) (earlier (part_name p)) → PartValue earlier p
  part-value earlier (Reads n) on is = is.bytes on
  part-value earlier (Links n) on is = is.value on
  part-value earlier (Runs n) on is = is.bytes on

  -- files that are read
  files-bytes : (earlier : List ℕ → Option SourceValue) (files : List (List ℕ)) → All (PartValue earlier) (map Reads files)
      → all_bytes (map earlier files) ≡ Some (map (content_of recipe all) files)
  files-bytes earlier [] values = refl
  files-bytes earlier (f ∷ files) values =
      ap (λ o. bytes_first o (all_bytes (map earlier files))) (All-head (PartValue earlier) (Reads f) (map Reads files) values)
      ∙ ap (option_map (λ more. made f ∷ more)) (files-bytes earlier files (All-tail (PartValue earlier) (Reads f) (map Reads files) values))

  -- the value of a text that is these files
  abbrev value-in : Language → ℕ → List (List ℕ) → Result SourceValue CheckCause
  value-in language base files = source_value_of language base (joined_files (map (content_of recipe all) files))

  -- a source of hex0, hex1 or hex2
  hex-value : (earlier : List ℕ → Option SourceValue) (lang : SourceLanguage) (base : ℕ) (files : List (List ℕ)) (b : List ℕ) → is_hex lang ≡ true
      → All (PartValue earlier) (source_parts lang files)
      → binary_in lang base (map (content_of recipe all) files) ≡ Some b → of_files lang base (map earlier files) ≡ Some (ValueBytes b)
  hex-value earlier (Defined Hex0) base files b hex values is =
      ap (of_bytes Hex0 base) (files-bytes earlier files values) ∙ bytes-value (value-in Hex0 base files) b is
  hex-value earlier (Defined Hex1) base files b hex values is =
      ap (of_bytes Hex1 base) (files-bytes earlier files values) ∙ bytes-value (value-in Hex1 base files) b is
  hex-value earlier (Defined Hex2) base [] b hex values is = bytes-value (value-in Hex2 base []) b is
  hex-value earlier (Defined Hex2) base (f ∷ []) b hex values is = ap (of_one base) one.1 ∙ by_value one.0 one.2 where
    one : PartValue earlier (Links f)
    one = All-head (PartValue earlier) (Links f) [] values

    by_value : (v : SourceValue) → HasValue (made f) v → of_one base (Some v) ≡ Some (ValueBytes b)
    by_value (ValueBytes x) same = ap (λ y. of_one base (Some (ValueBytes y))) same ∙ bytes-value (value-in Hex2 base (f ∷ [])) b is
    by_value (ValueItems items) reads =
        bytes-value (hex_value (linked base (Ok items))) b (ap (λ r. bytes_of_value (hex_value (linked base r))) (sym reads) ∙ is)
  hex-value earlier (Defined Hex2) base (f ∷ g ∷ files) b hex values is =
      ap (of_bytes Hex2 base) (files-bytes earlier (f ∷ g ∷ files) values) ∙ bytes-value (value-in Hex2 base (f ∷ g ∷ files)) b is
  hex-value earlier (Defined M1) base files b hex values is = absurd cc
  hex-value earlier Other base files b hex values is = absurd cc

  -- a stage that is checked in hex0, hex1 or hex2, whose artefact is right
  hex-stage : (earlier : List ℕ → Option SourceValue) (stage : Stage) (check found : List ℕ) (source : Source) → stage.check ≡ Some check
      → source_named recipe.sources check ≡ Some source → hex_check recipe.sources check ≡ Some found → All (PartValue earlier) (source_parts source.lang source.files)
      → Ran recipe all stage (made stage.name) → of_source earlier (Some source) ≡ Some (ValueBytes (made stage.name))
  unfolding binary_of text_of
  hex-stage earlier stage check found source was at is values ran =
      let right = checked-value recipe all stage check found (made stage.name) was is ran.right in
      let same = found-is recipe all all check found source at is in
      let value : binary_of (text_of recipe all source) ≡ Some (made stage.name) =
      sym (ap (λ n. binary_of (text_named recipe all n)) (sym same) ∙ ap binary_of (text-is recipe all all all check source at)) ∙ right in
      hex-value earlier source.lang source.base source.files (made stage.name) (is-hex (is_hex source.lang) (hex-there check found source at is)) values value
    where
      hex-there : (check found : List ℕ) (source : Source) → source_named recipe.sources check ≡ Some source → hex_check recipe.sources check ≡ Some found
          → cond (is_hex source.lang) (Some check) None ≡ Some found
      hex-there check found source at is = sym (ap (option_and_then (λ (s : Source). cond (is_hex s.lang) (Some check) None)) at) ∙ is

      is-hex : (b : Bool) → cond b (Some check) None ≡ Some found → b ≡ true
      is-hex true is = refl
      is-hex false is = absurd cc

  -- a source of M1
  m1-value : (earlier : List ℕ → Option SourceValue) (lang : SourceLanguage) (base : ℕ) (files : List (List ℕ)) (t : List ℕ) → lang ≡ Defined M1
      → All (PartValue earlier) (source_parts lang files) → HasItemsOf (record { lang = lang; base = base; files = map (content_of recipe all) files }) t
      → (v : SourceValue) × (of_files lang base (map earlier files) ≡ Some v) × HasValue t v
  m1-value earlier (Defined Hex0) base files t is values has = absurd cc
  m1-value earlier (Defined Hex1) base files t is values has = absurd cc
  m1-value earlier (Defined Hex2) base files t is values has = absurd cc
  m1-value earlier (Defined M1) base files t is values has =
      (ValueItems has.items, ap (of_bytes M1 base) (files-bytes earlier files values) ∙ ap (λ r. value_there (m1_value r)) has.expands, has.reads)
  m1-value earlier Other base files t is values has = absurd cc

  m1-stage : (earlier : List ℕ → Option SourceValue) (stage : Stage) (check : List ℕ) (source : Source) → stage.check ≡ Some check
      → source_named recipe.sources check ≡ Some source → source.lang ≡ Defined M1 → All (PartValue earlier) (source_parts source.lang source.files)
      → Ran recipe all stage (made stage.name) → (v : SourceValue) × (of_source earlier (Some source) ≡ Some v) × HasValue (made stage.name) v
  unfolding text_of
  m1-stage earlier stage check source was at is values ran =
      m1-value earlier source.lang source.base source.files (made stage.name) is values
      (subst (λ t. HasItemsOf t (made stage.name)) (text-is recipe all all all check source at)
      (checked-items recipe all stage check (made stage.name) was (language-is recipe all all stage check source was at is) ran.right))

  -- ---- any stage

  -- no free layout matters
  abbrev NoLayout : Stage → Type 0
  NoLayout stage = bytes_meet (walk recipe name) stage.name ≡ true → is_free recipe stage ≡ true → ⊥

  stage-stands : (earlier : List ℕ → Option SourceValue) (k : ℕ) (stage : Stage) → slice_get recipe.stages k ≡ Some stage
      → (meets (walk recipe name) stage.name ≡ true → is_some stage.check ≡ true) → NoLayout stage → Ran recipe all stage (made stage.name)
      → (meets (walk recipe name) stage.name ≡ true → All (PartValue earlier) (parts_of recipe stage))
      → Stands stage.name (of_check recipe earlier stage.check)
  unfolding parts_of is_free
  stage-stands earlier k stage at checked layout ran values = by_check stage.check refl ((ok.stages k stage at).check) checked values where
    Met : Type 0
    Met = meets (walk recipe name) stage.name ≡ true

    by_hex : (check : List ℕ) (source : Source) → stage.check ≡ Some check → source_named recipe.sources check ≡ Some source → is_defined source.lang ≡ true
        → (Met → All (PartValue earlier) (source_parts source.lang source.files)) → (o : Option (List ℕ)) → hex_check recipe.sources check ≡ o
        → Stands stage.name (of_source earlier (Some source))
    by_hex check source was there def parts (Some found) hex =
        let value : Met → of_source earlier (Some source) ≡ Some (ValueBytes (made stage.name)) =
        λ met. hex-stage earlier stage check found source was there hex (parts met) ran in
        record {
          value = λ met. (ValueBytes (made stage.name), value met, refl);
          bytes = λ here. value (bytes-met recipe ok name stage.name here);
        }
    by_hex check source was there def parts None hex =
        let free : is_free recipe stage ≡ true = ap (is_free_by recipe) was ∙ ap is_none hex in
        record {
          value = λ met. m1-stage earlier stage check source was there (is-m1 recipe all all source.lang def (not-hex recipe all all check source there hex)) (parts met) ran;
          bytes = λ here. absurd (layout here free);
        }

    by_check : (o : Option (List ℕ)) → stage.check ≡ o → IsCheck recipe (take k recipe.stages) o → (Met → is_some o ≡ true)
        → (Met → All (PartValue earlier) (parts_by recipe stage o)) → Stands stage.name (of_check recipe earlier o)
    by_check None was check some parts = record {
      value = λ met. absurd (let no = some met in cc);
      bytes = λ here. absurd (let no = some (bytes-met recipe ok name stage.name here) in cc);
    }
    by_check (Some n) was check some parts =
        subst (λ o. Stands stage.name (of_source earlier o)) (sym check.1)
        (by_hex n check.0 was check.1 check.2.defined (λ met. subst (λ o. All (PartValue earlier) (check_parts o)) check.1 (parts met)) (hex_check recipe.sources n) refl)

  -- ---- by the number of stages

  -- what was made by some stages is below
  made-below : (k : ℕ) (n : List ℕ) → IsMade recipe (take k recipe.stages) n → IsBelow k (meant recipe ok n)
  made-below k n is = subst (IsBelow k) (sym (content_more recipe.inputs recipe.stages k n is)) (by (content_named recipe.inputs (take k recipe.stages) n) refl is) where
    by : (o : Option Content) → content_named recipe.inputs (take k recipe.stages) n ≡ o → IsSome o → IsBelow k o
    by None at is = absurd cc
    by (Some (content.Input i)) at is = tt
    by (Some (content.Stage j)) at is = omega (arith, artefact-low recipe.inputs (take k recipe.stages) n j at, length-take k recipe.stages)

  -- an input
  input-stands : (n : List ℕ) → IsBelow 0 (meant recipe ok n) → Stands n (of_input inputs (input_at recipe.inputs n))
  unfolding content_named content_of all_contents
  input-stands n below = by (input_at recipe.inputs n) refl below where
    by_stage : (o : Option ℕ) → IsBelow 0 (option_map content.Stage o) → ⊥
    by_stage None is = is
    by_stage (Some k) is = omega (arith, is)

    by : (o : Option ℕ) → input_at recipe.inputs n ≡ o → IsBelow 0 (option_or (option_map content.Input o) (option_map content.Stage (stage_at recipe.stages n)))
        → Stands n (of_input inputs o)
    by None at is = absurd (by_stage (stage_at recipe.stages n) is)
    by (Some k) at is =
        let here : get_or inputs k [] ≡ made n =
        sym (ap (λ o. bytes_named all (option_or (option_map content.Input o) (option_map content.Stage (stage_at recipe.stages n)))) at) in
        record { value = λ met. (ValueBytes (get_or inputs k []), refl, here); bytes = λ met. ap (λ b. Some (ValueBytes b)) here }

  abbrev IsReady : Stage → Type 0
  IsReady stage = (meets (walk recipe name) stage.name ≡ true → is_some stage.check ≡ true) × NoLayout stage × Ran recipe all stage (made stage.name)

  stands : All IsReady recipe.stages → (k : ℕ) (n : List ℕ) → IsBelow k (meant recipe ok n) → Stands n (composed_from recipe inputs k n)
  unfolding composed_from
  stands ready zero n below = input-stands n below
  stands ready (suc k) n below = by_get (λ m is. stands ready k m is) (slice_get recipe.stages k) refl where
    Before : Type 0
    Before = (m : List ℕ) → IsBelow k (meant recipe ok m) → Stands m (composed_from recipe inputs k m)

    earlier : List ℕ → Option SourceValue
    earlier file = composed_from recipe inputs k file

    by_test : Before → (x : Stage) → slice_get recipe.stages k ≡ Some x → (b : Bool) → bytes_eq x.name n ≡ b
        → Stands n (cond b (of_check recipe earlier x.check) (composed_from recipe inputs k n))
    by_test before x at true same =
        let here : get_or recipe.stages k x ≡ x = element recipe.stages k x x at in
        let is : IsReady x = subst IsReady here (ready k x (within recipe.stages k x at)) in
        let parts = parts-made recipe (take k recipe.stages) x (ok.stages k x at) in
        let own = each-own own_test own-passes (parts_of recipe x) in
        subst (λ m. Stands m (of_check recipe earlier x.check)) ((bytes_eq-Decides x.name n).0 same)
        (stage-stands earlier k x at is.0 is.1 is.2
        (λ met i d less.
        let p = get_or (parts_of recipe x) i d in
        part-value earlier p (closed recipe ok name k x at met (own_test p) (own i d less)) (before (part_name p) (made-below k (part_name p) (parts i d less)))))
    by_test before x at false same =
        before n
        (lower recipe ok k n (meant recipe ok n) refl below (λ y y_at y_named. (let one = same_element x y (sym at ∙ y_at) in
        let other : bytes_eq x.name n ≡ true = ap (λ (z : Stage). bytes_eq z.name n) one ∙ y_named in absurd cc)))

    by_get : Before → (o : Option Stage) → slice_get recipe.stages k ≡ o → Stands n (of_stage recipe n o (composed_from recipe inputs k n) earlier)
    by_get before None at = before n (lower recipe ok k n (meant recipe ok n) refl below (λ y y_at y_named. absurd cc))
    by_get before (Some x) at = by_test before x at (bytes_eq x.name n) refl

  -- a stage of a name is below
  stage-below : (stage : Stage) → stage_named recipe.stages name ≡ Some stage → IsBelow (length recipe.stages) (meant recipe ok name)
  stage-below stage at =
      let index = found-at (λ (s : Stage). bytes_eq s.name name) recipe.stages stage at in
      let own : bytes_eq stage.name name ≡ true = (found (λ (s : Stage). bytes_eq s.name name) (λ s. Unit {0}) recipe.stages stage (λ k d less. tt) at).1 in
      subst (IsBelow (length recipe.stages)) (sym (own-stage recipe ok index.0 stage index.1) ∙ ap (meant recipe ok) ((bytes_eq-Decides stage.name name).0 own))
      (within recipe.stages index.0 stage index.1)

  pub composes : (report : Report) (stage : Stage) → IsInputs recipe inputs → bench recipe inputs ≡ Completes report → stage_named recipe.stages name ≡ Some stage
      → ran recipe name ≡ [] → layouts recipe name ≡ [] → HasComposed recipe inputs name (made name)
  unfolding layouts
  composes report stage given is at none_ran none =
      let checked = all-checked recipe ok name none_ran in
      let r = reached recipe inputs report ok given is in
      let free = none-left recipe ok name (layout_name recipe (walk recipe name)) recipe.stages none in
      let ready : All IsReady recipe.stages =
      λ k d less. (
        checked k d less,
        λ here loose.
            (let both : None ≡ Some (get_or recipe.stages k d).name =
            sym (free k d less) ∙ ap₂ (λ a b. cond (a && b) (Some (get_or recipe.stages k d).name) None) here loose in absurd cc),
        r.ran k d less,
      ) in
      let done = (stands ready (length recipe.stages) name (stage-below stage at)).value (begins recipe ok name) in
      record { value = done.0; is = done.1; has = done.2 }
