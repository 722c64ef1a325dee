-- What names stand for stays the same as stages are done.
use Rattle.std.proofs.Common.{◌≡◌, ℕ, ◌<◌, Option, None, Some, List, [], ◌∷◌, ◌++◌, length, map, take, get_or, refl, sym, ap, ◌∙◌, subst, arith, All}
use Rattle.std.specs.Prelude.{IsSome, bytes_eq, option_and_then, option_map}
use Rattle.std.specs.FinMap as finite
use Rattle.std.specs.List.{fold}
use Rattle.std.specs.Option.{option_or}
use Rattle.std.proofs.lemmas.List.{get_or_append_left, length-map, map-append}
use Rattle.std.proofs.lemmas.List.Elements.{All-head, All-tail}
use Rattle.std.proofs.lemmas.Option.{slice_get-get_or}
use Rattle.guest_run.specs.Setting.{FileMap}
use Rattle.recipe.specs.declared.contents.RecipeContents.{RecipeContents}
use Rattle.recipe.specs.declared.parts.Content.{Content}
use Rattle.recipe.specs.declared.parts.Content.TheVariants.{Input, Stage as Artefact}
use Rattle.recipe.specs.declared.parts.Input.{Input as InputTable}
use Rattle.recipe.specs.declared.parts.Source.{Source}
use Rattle.recipe.specs.declared.parts.Stage.{Stage}
use Rattle.recipe.specs.declared.parts.StageFile.{StageFile}
use Rattle.recipe.specs.Kept.{Each, IsCheck, IsMade, IsStage}
use Rattle.recipe.specs.Lookups.{content_named, input_at, source_named, stage_at}
use Rattle.recipe.proofs.MoreStages.{content_more}
use Rattle.audit_rules.specs.declared.answer.Finished.{Finished}
use Rattle.audit_rules.specs.Contents.{Contents, box_of, bytes_named, check_of, content, defined, source_check, text_check, text_of, with_stage_file}
use Rattle.audit_rules.specs.Stages.{contents}
use Rattle.wheeler.proofs.Naming.{position-low, take-prefix}

pub each-all : {A : Type 0} (P : A → Type 0) (xs : List A) → Each P xs → All P xs
each-all P xs each k d less = each k (get_or xs k d) (slice_get-get_or xs k d less)

-- an artefact among some stages is one of theirs
artefact-low : (inputs : List InputTable) (earlier : List Stage) (name : List ℕ) (index : ℕ) → content_named inputs earlier name ≡ Some (Artefact index) → index < length earlier
unfolding content_named
artefact-low inputs earlier name index is = by_input (input_at inputs name) is where
  stage_number : Option Content → ℕ
  stage_number (Some (Artefact k)) = k
  stage_number _ = 0

  by_stage : (o : Option ℕ) → stage_at earlier name ≡ o → option_map Artefact o ≡ Some (Artefact index) → index < length earlier
  by_stage None at is = absurd cc
  by_stage (Some k) at is =
      let same : k ≡ index = ap stage_number is in
      let low = position-low (λ (s : Stage). bytes_eq s.name name) earlier k at in
      omega (arith, same, low)

  by_input : (o : Option ℕ) → option_or (option_map Input o) (option_map Artefact (stage_at earlier name)) ≡ Some (Artefact index) → index < length earlier
  by_input None is = by_stage (stage_at earlier name) refl is
  by_input (Some k) is = absurd cc

-- the stages of a recipe that are done, and those that are left
pub record IsSplit (recipe : RecipeContents) (earlier rest : List Stage) (done : List Finished) : Type 0 where
  pub stages : recipe.stages ≡ earlier ++ rest
  pub count : length done ≡ length earlier

module _ (recipe : RecipeContents) (earlier rest : List Stage) (inputs : List (List ℕ)) (done more : List Finished) (split : IsSplit recipe earlier rest done) where
  abbrev pub so_far : Contents
  so_far = contents inputs done

  abbrev pub all : Contents
  all = contents inputs (done ++ more)

  pub same-content : (name : List ℕ) → IsMade recipe earlier name → content recipe all name ≡ content recipe so_far name
  unfolding content
  same-content name there =
      ap (bytes_named all) at ∙ by_index (content_named recipe.inputs earlier name) refl ∙ sym (ap (bytes_named so_far) at) where
        prefix : take (length earlier) recipe.stages ≡ earlier
        prefix = ap (take (length earlier)) split.stages ∙ take-prefix earlier rest

        at : content_named recipe.inputs recipe.stages name ≡ content_named recipe.inputs earlier name
        at =
            content_more recipe.inputs recipe.stages (length earlier) name (subst (λ s. IsSome (content_named recipe.inputs s name)) (sym prefix) there)
            ∙ ap (λ s. content_named recipe.inputs s name) prefix

        made : Finished → List ℕ
        made = λ f. f.made

        by_index : (o : Option Content) → content_named recipe.inputs earlier name ≡ o → bytes_named all o ≡ bytes_named so_far o
        by_index None is = refl
        by_index (Some (Input k)) is = refl
        by_index (Some (Artefact k)) is =
            let low = artefact-low recipe.inputs earlier name k is in
            let count = length-map done made in
            let same = split.count in
            ap (λ l. get_or l k []) (map-append made done more) ∙ get_or_append_left (map made done) (map made more) [] k (omega (arith, low, count, same))

  same-fold : (files : List StageFile) (held : FileMap) → All (λ (file : StageFile). content recipe all file.from ≡ content recipe so_far file.from) files
      → fold (with_stage_file recipe all) held files ≡ fold (with_stage_file recipe so_far) held files
  same-fold [] held same = refl
  same-fold (file ∷ files) held same =
      let P : StageFile → Type 0 = λ file. content recipe all file.from ≡ content recipe so_far file.from in
      ap (λ bytes. fold (with_stage_file recipe all) (finite.insert held file.path bytes) files) (All-head P file files same)
      ∙ same-fold files (finite.insert held file.path (content recipe so_far file.from)) (All-tail P file files same)

  pub same-box : (stage : Stage) → IsStage recipe earlier stage → box_of recipe all stage ≡ box_of recipe so_far stage
  unfolding box_of
  same-box stage is =
      let files = same-fold stage.files finite.empty (λ k d less. same-content (get_or stage.files k d).from (each-all _ stage.files is.files k d less).from) in
      λ i. record { args = stage.args; env = stage.env; files = files i; heap = stage.heap }

  same-texts : (names : List (List ℕ)) → All (λ name. content recipe all name ≡ content recipe so_far name) names
      → map (content recipe all) names ≡ map (content recipe so_far) names
  same-texts [] same = refl
  same-texts (name ∷ names) same =
      let P : List ℕ → Type 0 = λ name. content recipe all name ≡ content recipe so_far name in
      λ i. All-head P name names same i ∷ same-texts names (All-tail P name names same) i

  same-text : (source : Source) → Each (IsMade recipe earlier) source.files → text_of recipe all source ≡ text_of recipe so_far source
  unfolding text_of
  same-text source there =
      let files = same-texts source.files (λ k d less. same-content (get_or source.files k d) (each-all (IsMade recipe earlier) source.files there k d less)) in
      λ i. record { lang = source.lang; base = source.base; files = files i }

  pub same-check : (stage : Stage) (made : List ℕ) → IsStage recipe earlier stage → check_of recipe all stage made ≡ check_of recipe so_far stage made
  unfolding check_of
  same-check stage made is = by_check stage.check is.check where
    by_check : (o : Option (List ℕ)) → IsCheck recipe earlier o
        → source_check recipe all (option_and_then (source_named recipe.sources) o) made ≡ source_check recipe so_far (option_and_then (source_named recipe.sources) o) made
    by_check None is = refl
    by_check (Some name) is =
        ap (λ o. source_check recipe all o made) is.1
        ∙ ap (λ t. text_check t (defined is.0.lang) made) (same-text is.0 is.2.files)
        ∙ sym (ap (λ o. source_check recipe so_far o made) is.1)
