-- The way back goes on to the parts of every stage on it.
use Rattle.std.proofs.Common.{◌≡◌, ℕ, zero, suc, ◌<◌, ◌≤◌, ◌||◌, Bool, true, false, cond, Option, None, Some, List, [], ◌∷◌, ◌++◌, length, map, take, get_or, refl, sym, ap, ◌∙◌, subst, arith, All, inl, inr}
use Rattle.std.specs.Prelude.{IsSome, bytes_eq, slice_get, option_map}
use Rattle.std.specs.List.{list_any}
use Rattle.std.specs.Option.{option_or}
use Rattle.std.proofs.lemmas.Bool.{cases_Bool, cases_lt, false_from_ne_true, or_from}
use Rattle.std.proofs.lemmas.List.{length-take}
use Rattle.std.proofs.lemmas.List.Elements.{All-cons, All-nil, All-head, All-tail}
use Rattle.std.proofs.lemmas.List.Folds.{list_any-append, list_any_none}
use Rattle.std.proofs.lemmas.Slice.Eq.{bytes_eq-Decides}
use Rattle.ddc_base.specs.declared.languages.Language.TheVariants.{Hex0, Hex1, Hex2, M1}
use Rattle.recipe.specs.declared.contents.RecipeContents.{RecipeContents}
use Rattle.recipe.specs.declared.parts.Content.{Content}
use Rattle.recipe.specs.declared.parts.Content.TheVariants as content
use Rattle.recipe.specs.declared.parts.Input.{Input}
use Rattle.recipe.specs.declared.parts.Source.{Source}
use Rattle.recipe.specs.declared.parts.SourceLanguage.{SourceLanguage}
use Rattle.recipe.specs.declared.parts.SourceLanguage.TheVariants.{Defined, Other}
use Rattle.recipe.specs.declared.parts.Stage.{Stage}
use Rattle.recipe.specs.Kept.{IsRecipe, IsStage, IsMade, IsCheck}
use Rattle.recipe.specs.Lookups.{content_named, input_at, source_named, source_of, stage_at}
use Rattle.recipe.proofs.MoreStages.{content_more}
use Rattle.wheeler.proofs.Finding.{each-all}
use Rattle.wheeler.proofs.Naming.{position-low}
use Rattle.wheeler.proofs.RouteClosed.{own-stage, same_element, within}
use Rattle.audit_chain.specs.declared.rests.basis_part.BasisPart.{BasisPart}
use Rattle.audit_chain.specs.declared.rests.basis_part.BasisPart.TheVariants.{Reads, Links, Runs}
use Rattle.audit_chain.specs.Rests.Walk.{check_parts, file_part, is_bytes, is_part_named, is_program, meets, part_name, parts_by, parts_of, source_parts, walk, walk_from, with_stage}
use Rattle.audit_chain.proofs.RestsLemmas.Tests.{All-map, any-has, any-left, any-right}

-- ---- parts and their names

pub named-by : (name : List ℕ) (p : BasisPart) → is_part_named name p ≡ bytes_eq (part_name p) name
named-by name (Reads other) = refl
named-by name (Links other) = refl
named-by name (Runs other) = refl

pub bytes-named : (name : List ℕ) (p : BasisPart) → is_bytes name p ≡ true → is_part_named name p ≡ true
bytes-named name (Reads other) is = is
bytes-named name (Links other) is = absurd cc
bytes-named name (Runs other) is = is

pub program-named : (name : List ℕ) (p : BasisPart) → is_program name p ≡ true → is_part_named name p ≡ true
program-named name (Reads other) is = absurd cc
program-named name (Links other) is = absurd cc
program-named name (Runs other) is = is

-- the parts of a source are its files
pub files-parts : (P : BasisPart → Type 0) (lang : SourceLanguage) (files : List (List ℕ)) → All (λ f. P (Reads f)) files → All (λ f. P (Links f)) files → All P (source_parts lang files)
files-parts P (Defined Hex0) files reads links = All-map P Reads files reads
files-parts P (Defined Hex1) files reads links = All-map P Reads files reads
files-parts P (Defined Hex2) [] reads links = All-nil P
files-parts P (Defined Hex2) (f ∷ []) reads links = All-cons P (Links f) [] (All-head (λ f. P (Links f)) f [] links) (All-nil P)
files-parts P (Defined Hex2) (f ∷ g ∷ files) reads links = All-map P Reads (f ∷ g ∷ files) reads
files-parts P (Defined M1) files reads links = All-map P Reads files reads
files-parts P Other files reads links = All-map P Reads files reads

-- ---- the parts of a stage were made before it

pub artefact-low : (inputs : List Input) (earlier : List Stage) (name : List ℕ) (index : ℕ) → content_named inputs earlier name ≡ Some (content.Stage index) → index < length earlier
unfolding content_named
artefact-low inputs earlier name index is = by_input (input_at inputs name) is where
  input_index : Option Content → ℕ
  input_index (Some (content.Stage k)) = k
  input_index _ = 0

  by_stage : (o : Option ℕ) → stage_at earlier name ≡ o → option_map content.Stage o ≡ Some (content.Stage index) → index < length earlier
  by_stage None at is = absurd cc
  by_stage (Some k) at is =
      let same : k ≡ index = ap input_index is in
      let low = position-low (λ (s : Stage). bytes_eq s.name name) earlier k at in
      omega (arith, same, low)

  by_input : (o : Option ℕ) → option_or (option_map content.Input o) (option_map content.Stage (stage_at earlier name)) ≡ Some (content.Stage index) → index < length earlier
  by_input None is = by_stage (stage_at earlier name) refl is
  by_input (Some k) is = absurd cc

pub parts-made : (recipe : RecipeContents) (earlier : List Stage) (stage : Stage) → IsStage recipe earlier stage → All (λ p. IsMade recipe earlier (part_name p)) (parts_of recipe stage)
unfolding parts_of
parts-made recipe earlier stage is = by_check stage.check is.check where
  P : BasisPart → Type 0
  P p = IsMade recipe earlier (part_name p)

  by_source : (source : Source) (o : Option Source) → o ≡ Some source → All (IsMade recipe earlier) source.files → All P (check_parts o)
  by_source source None at files = absurd cc
  by_source source (Some other) at files =
      subst (λ (s : Source). All P (source_parts s.lang s.files)) (same_element source other (sym at)) (files-parts P source.lang source.files files files)

  by_check : (o : Option (List ℕ)) → IsCheck recipe earlier o → All P (parts_by recipe stage o)
  by_check None check =
      All-cons P (Runs stage.program) (map file_part stage.files) is.program
      (All-map P file_part stage.files (λ k d less. (each-all _ stage.files is.files k d less).from))
  by_check (Some name) check = by_source check.0 (source_named recipe.sources name) check.1 (each-all (IsMade recipe earlier) check.0.files check.2.files)

module _ (recipe : RecipeContents) (ok : IsRecipe recipe) where
  -- what was made before a stage does not have the name of this stage or of a later one
  other-name : (k j : ℕ) (s : Stage) → slice_get recipe.stages j ≡ Some s → k ≤ j → (name : List ℕ) → IsMade recipe (take k recipe.stages) name → bytes_eq name s.name ≡ false
  other-name k j s at few name made =
      false_from_ne_true (bytes_eq name s.name) (λ equal.
      (let same : name ≡ s.name = (bytes_eq-Decides name s.name).0 equal in
      let here : content_named recipe.inputs (take k recipe.stages) name ≡ Some (content.Stage j) =
      sym (content_more recipe.inputs recipe.stages k name made) ∙ ap (content_named recipe.inputs recipe.stages) same ∙ own-stage recipe ok j s at in
      let low = artefact-low recipe.inputs (take k recipe.stages) name j here in
      omega (arith, low, few, length-take k recipe.stages)))

  parts-other : (k j : ℕ) (x s : Stage) → slice_get recipe.stages k ≡ Some x → slice_get recipe.stages j ≡ Some s → k ≤ j → meets (parts_of recipe x) s.name ≡ false
  parts-other k j x s x_at at few =
      let made = parts-made recipe (take k recipe.stages) x (ok.stages k x x_at) in
      list_any_none (is_part_named s.name) (parts_of recipe x)
      (λ i d less. named-by s.name (get_or (parts_of recipe x) i d) ∙ other-name k j s at few (part_name (get_or (parts_of recipe x) i d)) (made i d less))

  -- ---- the walk

  -- it only grows
  with-more : (test : BasisPart → Bool) (parts : List BasisPart) (o : Option Stage) → list_any test parts ≡ true → list_any test (with_stage recipe parts o) ≡ true
  with-more test parts None is = is
  with-more test parts (Some stage) is = by (meets parts stage.name) where
    by : (b : Bool) → list_any test (cond b (parts ++ parts_of recipe stage) parts) ≡ true
    by true = any-left test parts (parts_of recipe stage) is
    by false = is

  pub walk-more : (test : BasisPart → Bool) (n : ℕ) (parts : List BasisPart) → list_any test parts ≡ true → list_any test (walk_from recipe n parts) ≡ true
  unfolding walk_from
  walk-more test zero parts is = is
  walk-more test (suc n) parts is =
      walk-more test n (with_stage recipe parts (slice_get recipe.stages n)) (with-more test parts (slice_get recipe.stages n) is)

  -- a stage that was not met is not met by earlier stages
  unmet : (n j : ℕ) (s : Stage) → slice_get recipe.stages j ≡ Some s → n ≤ j → (parts : List BasisPart) → meets parts s.name ≡ false → meets (walk_from recipe n parts) s.name ≡ false
  unfolding walk_from
  unmet zero j s at few parts is = is
  unmet (suc n) j s at few parts is = unmet n j s at (omega (arith, few)) (with_stage recipe parts (slice_get recipe.stages n)) (by_get (slice_get recipe.stages n) refl)
    where
      by_test : (x : Stage) → slice_get recipe.stages n ≡ Some x → (b : Bool) → meets (cond b (parts ++ parts_of recipe x) parts) s.name ≡ false
      by_test x x_at true =
          list_any-append (is_part_named s.name) parts (parts_of recipe x)
          ∙ or_from (meets parts s.name) (meets (parts_of recipe x) s.name) is (parts-other n j x s x_at at (omega (arith, few)))
      by_test x x_at false = is

      by_get : (o : Option Stage) → slice_get recipe.stages n ≡ o → meets (with_stage recipe parts o) s.name ≡ false
      by_get None x_at = is
      by_get (Some x) x_at = by_test x x_at (meets parts x.name)

  -- a stage that is met has its parts on the walk
  pub closed-from : (n : ℕ) (parts : List BasisPart) (j : ℕ) (s : Stage) → slice_get recipe.stages j ≡ Some s → j < n → meets (walk_from recipe n parts) s.name ≡ true
      → (test : BasisPart → Bool) → list_any test (parts_of recipe s) ≡ true → list_any test (walk_from recipe n parts) ≡ true
  unfolding walk_from
  closed-from zero parts j s at less met test is = absurd (omega (arith, less))
  closed-from (suc n) parts j s at less met test is = elim (cases_lt j n) [
    | inl lower ↦ closed-from n (with_stage recipe parts (slice_get recipe.stages n)) j s at lower met test is
    | inr most ↦
        let same : j ≡ n = omega (arith, less, most) in
        let here : slice_get recipe.stages n ≡ Some s = ap (slice_get recipe.stages) (sym same) ∙ at in
        let step : with_stage recipe parts (slice_get recipe.stages n) ≡ cond (meets parts s.name) (parts ++ parts_of recipe s) parts = ap (with_stage recipe parts) here in
        elim (cases_Bool (meets parts s.name)) [
          | inl was ↦
              let grown : with_stage recipe parts (slice_get recipe.stages n) ≡ parts ++ parts_of recipe s = step ∙ ap (λ b. cond b (parts ++ parts_of recipe s) parts) was in
              walk-more test n (with_stage recipe parts (slice_get recipe.stages n)) (ap (list_any test) grown ∙ any-right test parts (parts_of recipe s) is)
          | inr wasnt ↦
              let kept : with_stage recipe parts (slice_get recipe.stages n) ≡ parts = step ∙ ap (λ b. cond b (parts ++ parts_of recipe s) parts) wasnt in
              let never = unmet n j s at most (with_stage recipe parts (slice_get recipe.stages n)) (ap (λ l. meets l s.name) kept ∙ wasnt) in
              absurd (let both : false ≡ true = sym never ∙ met in cc)
        ]
  ]

  pub closed : (name : List ℕ) (j : ℕ) (s : Stage) → slice_get recipe.stages j ≡ Some s → meets (walk recipe name) s.name ≡ true
      → (test : BasisPart → Bool) → list_any test (parts_of recipe s) ≡ true → list_any test (walk recipe name) ≡ true
  unfolding walk
  closed name j s at met test is = closed-from (length recipe.stages) (Links name ∷ []) j s at (within recipe.stages j s at) met test is

  -- the walk meets the stage that it begins at
  pub begins : (name : List ℕ) → meets (walk recipe name) name ≡ true
  unfolding walk
  begins name =
      walk-more (is_part_named name) (length recipe.stages) (Links name ∷ []) (ap (λ b. b || false) ((bytes_eq-Decides name name).1 refl))

  -- ---- programs on the walk have a source

  abbrev pub Argued : BasisPart → Type 0
  Argued (Reads name) = Unit {0}
  Argued (Links name) = Unit {0}
  Argued (Runs name) = IsSome (source_of recipe name)

  parts-argued : (earlier : List Stage) (stage : Stage) → IsStage recipe earlier stage → All Argued (parts_of recipe stage)
  unfolding parts_of
  parts-argued earlier stage is = by_check stage.check refl where
    by_source : (o : Option Source) → All Argued (check_parts o)
    by_source None = All-nil Argued
    by_source (Some source) = files-parts Argued source.lang source.files (λ k d less. tt) (λ k d less. tt)

    by_check : (o : Option (List ℕ)) → stage.check ≡ o → All Argued (parts_by recipe stage o)
    by_check None was = All-cons Argued (Runs stage.program) (map file_part stage.files) (is.argued was) (All-map Argued file_part stage.files (λ k d less. tt))
    by_check (Some name) was = by_source (source_named recipe.sources name)

  argued-from : (n : ℕ) (parts : List BasisPart) → All Argued parts → All Argued (walk_from recipe n parts)
  unfolding walk_from
  argued-from zero parts all = all
  argued-from (suc n) parts all = argued-from n (with_stage recipe parts (slice_get recipe.stages n)) (by_get (slice_get recipe.stages n) refl) where
    by_test : (x : Stage) → slice_get recipe.stages n ≡ Some x → (b : Bool) → All Argued (cond b (parts ++ parts_of recipe x) parts)
    by_test x at true = both parts all where
      more : All Argued (parts_of recipe x)
      more = parts-argued (take n recipe.stages) x (ok.stages n x at)

      both : (prefix : List BasisPart) → All Argued prefix → All Argued (prefix ++ parts_of recipe x)
      both [] these = more
      both (p ∷ prefix) these = All-cons Argued p (prefix ++ parts_of recipe x) (All-head Argued p prefix these) (both prefix (All-tail Argued p prefix these))
    by_test x at false = all

    by_get : (o : Option Stage) → slice_get recipe.stages n ≡ o → All Argued (with_stage recipe parts o)
    by_get None at = all
    by_get (Some x) at = by_test x at (meets parts x.name)

  pub run-argued : (name program : List ℕ) → list_any (is_program program) (walk recipe name) ≡ true → IsSome (source_of recipe program)
  unfolding walk
  run-argued name program is =
      any-has (is_program program) (IsSome (source_of recipe program)) Argued (walk recipe name)
      (argued-from (length recipe.stages) (Links name ∷ []) (All-cons Argued (Links name) [] tt (All-nil Argued))) by_part is where
        by_part : (p : BasisPart) → Argued p → is_program program p ≡ true → IsSome (source_of recipe program)
        by_part (Reads other) has same = absurd cc
        by_part (Links other) has same = absurd cc
        by_part (Runs other) has same = subst (λ n. IsSome (source_of recipe n)) ((bytes_eq-Decides other program).0 same) has
