-- Two recipes that check alike compose the same.
use Rattle.std.proofs.Common.{◌≡◌, ℕ, zero, suc, Bool, true, false, cond, Option, None, Some, List, [], ◌∷◌, length, map, refl, sym, ap, ap₂, ◌∙◌, subst, All}
use Rattle.std.specs.Prelude.{bytes_eq, option_map, slice_get}
use Rattle.std.proofs.lemmas.List.{length-map}
use Rattle.std.proofs.lemmas.List.Elements.{All-cons, All-head, All-nil, All-tail}
use Rattle.std.proofs.lemmas.Option.{same_Some}
use Rattle.std.proofs.lemmas.Slice.Eq.{bytes_eq-Decides}
use Rattle.ddc_base.specs.declared.languages.Language.TheVariants.{Hex0, Hex1, Hex2, M1}
use Rattle.recipe.specs.declared.contents.RecipeContents.{RecipeContents}
use Rattle.recipe.specs.declared.parts.Source.{Source}
use Rattle.recipe.specs.declared.parts.SourceLanguage.{SourceLanguage}
use Rattle.recipe.specs.declared.parts.SourceLanguage.TheVariants.{Defined, Other}
use Rattle.recipe.specs.declared.parts.Stage.{Stage}
use Rattle.recipe.specs.Kept.{IsRecipe}
use Rattle.recipe.specs.Lookups.{source_named}
use Rattle.report.specs.declared.types.Report.{Report}
use Rattle.audit_rules.specs.SourceCheck.Checks.{SourceValue}
use Rattle.audit_rules.specs.Bench.{bench}
use Rattle.audit_rules.specs.Contents.{content}
use Rattle.audit_rules.specs.Valid.{IsInputs}
use Rattle.audit_rules.specs.declared.answer.AuditAnswer.TheVariants.{Completes}
use Rattle.wheeler.specs.AllContents.{all_contents, stage_named}
use Rattle.audit_chain.specs.declared.rests.basis_part.BasisPart.TheVariants.{Reads, Links}
use Rattle.audit_chain.specs.Rests.Basis.{layouts, ran}
use Rattle.audit_chain.specs.Rests.Composed.{ChecksAlike, HasValue, HaveOneValue, composed_from, of_check, of_files, of_source, of_stage}
use Rattle.audit_chain.specs.Rests.Walk.{check_parts, meets, part_name, parts_by, parts_of, source_parts, walk}
use Rattle.audit_chain.proofs.RestsLemmas.Closed.{begins}
use Rattle.audit_chain.proofs.RestsLemmas.Composing.{composes}
use Rattle.audit_chain.proofs.RestsLemmas.Routed.{has-parts}
use Rattle.audit_chain.proofs.RestsLemmas.Tests.{All-unmap}

get-map : {X Y : Type 0} (f : X → Y) (xs : List X) (n : ℕ) → slice_get (map f xs) n ≡ option_map f (slice_get xs n)
get-map f [] n = refl
get-map f (x ∷ xs) zero = refl
get-map f (x ∷ xs) (suc n) = get-map f xs n

-- what holds of the names of a source's parts holds of its files
parts-files : (P : List ℕ → Type 0) (lang : SourceLanguage) (files : List (List ℕ)) → All (λ p. P (part_name p)) (source_parts lang files) → All P files
parts-files P (Defined Hex0) files all = All-unmap (λ p. P (part_name p)) Reads files all
parts-files P (Defined Hex1) files all = All-unmap (λ p. P (part_name p)) Reads files all
parts-files P (Defined Hex2) [] all = All-nil P
parts-files P (Defined Hex2) (f ∷ []) all = All-cons P f [] (All-head (λ p. P (part_name p)) (Links f) [] all) (All-nil P)
parts-files P (Defined Hex2) (f ∷ g ∷ files) all = All-unmap (λ p. P (part_name p)) Reads (f ∷ g ∷ files) all
parts-files P (Defined M1) files all = All-unmap (λ p. P (part_name p)) Reads files all
parts-files P Other files all = All-unmap (λ p. P (part_name p)) Reads files all

same-values : {V : Type 0} (one two : List ℕ → V) (files : List (List ℕ)) → All (λ f. one f ≡ two f) files → map one files ≡ map two files
same-values one two [] all = refl
same-values one two (f ∷ files) all =
    ap₂ (λ v vs. v ∷ vs) (All-head (λ g. one g ≡ two g) f files all) (same-values one two files (All-tail (λ g. one g ≡ two g) f files all))

module _ (recipe other : RecipeContents) (ok : IsRecipe recipe) (inputs others : List (List ℕ)) (name : List ℕ) (alike : ChecksAlike recipe other inputs others name) where
  abbrev Met : List ℕ → Type 0
  Met n = meets (walk recipe name) n ≡ true

  abbrev one : ℕ → List ℕ → Option SourceValue
  one k file = composed_from recipe inputs k file

  abbrev two : ℕ → List ℕ → Option SourceValue
  two k file = composed_from other others k file

  abbrev key : Stage → List ℕ × Option (List ℕ)
  key stage = (stage.name, stage.check)

  keys-at : (k : ℕ) → option_map key (slice_get recipe.stages k) ≡ option_map key (slice_get other.stages k)
  keys-at k = sym (get-map key recipe.stages k) ∙ ap (λ l. slice_get l k) alike.checks ∙ get-map key other.stages k

  same-source : (k : ℕ) → ((n : List ℕ) → Met n → one k n ≡ two k n) → (o : Option Source) → All (λ p. Met (part_name p)) (check_parts o)
      → of_source (one k) o ≡ of_source (two k) o
  same-source k before None met = refl
  same-source k before (Some source) met =
      let files = parts-files Met source.lang source.files met in
      ap (of_files source.lang source.base) (same-values (one k) (two k) source.files (λ i d less. before _ (files i d less)))

  same-check : (k : ℕ) → ((n : List ℕ) → Met n → one k n ≡ two k n) → (stage : Stage) (o : Option (List ℕ)) → All (λ p. Met (part_name p)) (parts_by recipe stage o)
      → of_check recipe (one k) o ≡ of_check other (two k) o
  same-check k before stage None met = refl
  same-check k before stage (Some check) met =
      same-source k before (source_named recipe.sources check) met
      ∙ ap (λ sources. of_source (two k) (source_named sources check)) alike.sources

  same-composed : (k : ℕ) (n : List ℕ) → Met n → one k n ≡ two k n
  unfolding composed_from parts_of
  same-composed zero n met = alike.texts n met
  same-composed (suc k) n met =
      by_get (λ m on. same-composed k m on) (slice_get recipe.stages k) (slice_get other.stages k) refl (keys-at k)
    where
      Before : Type 0
      Before = (m : List ℕ) → Met m → one k m ≡ two k m

      by_test : Before → (x y : Stage) → slice_get recipe.stages k ≡ Some x → x.name ≡ y.name → x.check ≡ y.check → (b : Bool) → bytes_eq x.name n ≡ b
          → cond b (of_check recipe (one k) x.check) (one k n) ≡ cond b (of_check other (two k) y.check) (two k n)
      by_test before x y at names checks true same =
          let on : Met x.name = subst Met (sym ((bytes_eq-Decides x.name n).0 same)) met in
          same-check k before x x.check (has-parts recipe ok name k x at on) ∙ ap (of_check other (two k)) checks
      by_test before x y at names checks false same = before n met

      by_get : Before → (o p : Option Stage) → slice_get recipe.stages k ≡ o → option_map key o ≡ option_map key p
          → of_stage recipe n o (one k n) (one k) ≡ of_stage other n p (two k n) (two k)
      by_get before None None at keys = before n met
      by_get before None (Some y) at keys = absurd cc
      by_get before (Some x) None at keys = absurd cc
      by_get before (Some x) (Some y) at keys =
          let both = same_Some (key x) (key y) keys in
          let names : x.name ≡ y.name = ap (λ p. p.0) both in
          let checks : x.check ≡ y.check = ap (λ p. p.1) both in
          by_test before x y at names checks (bytes_eq x.name n) refl
          ∙ ap (λ b. cond b (of_check other (two k) y.check) (two k n)) (ap (λ m. bytes_eq m n) names)

  pub same-value : IsRecipe other → (report whole : Report) (stage twin : Stage) → IsInputs recipe inputs → IsInputs other others
      → bench recipe inputs ≡ Completes report → bench other others ≡ Completes whole
      → stage_named recipe.stages name ≡ Some stage → stage_named other.stages name ≡ Some twin
      → ran recipe name ≡ [] → layouts recipe name ≡ [] → ran other name ≡ [] → layouts other name ≡ []
      → HaveOneValue (content recipe (all_contents recipe inputs) name) (content other (all_contents other others) name)
  same-value ok_other report whole stage twin given given_other is is_other at at_other checked none checked_other none_other =
      let mine = composes recipe ok inputs name report stage given is at checked none in
      let theirs = composes other ok_other others name whole twin given_other is_other at_other checked_other none_other in
      let count : length recipe.stages ≡ length other.stages = sym (length-map recipe.stages key) ∙ ap length alike.checks ∙ length-map other.stages key in
      let same : Some mine.value ≡ Some theirs.value =
      sym mine.is ∙ same-composed (length recipe.stages) name (begins recipe ok name) ∙ ap (λ k. composed_from other others k name) count ∙ theirs.is in
      let value = same_Some mine.value theirs.value same in
      record {
        value = mine.value;
        one = mine.has;
        two = subst (HasValue (content other (all_contents other others) name)) (sym value) theirs.has;
      }
