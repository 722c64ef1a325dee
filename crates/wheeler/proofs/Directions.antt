-- Both directions of Wheeler's argument, from the end of a bench.
use Rattle.std.proofs.Common.{◌≡◌, ◌≢◌, ℕ, Bool, true, false, cond, Option, None, Some, List, [], ◌∷◌, map, refl, sym, ap, ◌∙◌, subst, All}
use Rattle.std.specs.Prelude.{bytes_eq, find, if◌then◌else◌, option_and_then}
use Rattle.std.specs.List.{AllZip}
use Rattle.std.proofs.lemmas.List.Elements.{All-head, All-tail}
use Rattle.std.proofs.lemmas.Option.{same_Some}
use Rattle.std.proofs.lemmas.Slice.Eq.{bytes_eq-Decides}
use Rattle.ddc_base.specs.Difference.{first_difference}
use Rattle.ddc_base.specs.declared.languages.Language.{Language}
use Rattle.ddc_base.specs.declared.languages.Language.TheVariants.{Hex0, Hex1, Hex2, M1}
use Rattle.guest_run.specs.Setting.{IsBox}
use Rattle.recipe.specs.declared.contents.RecipeContents.{RecipeContents}
use Rattle.recipe.specs.declared.parts.Source.{Source}
use Rattle.recipe.specs.declared.parts.SourceLanguage.{SourceLanguage}
use Rattle.recipe.specs.declared.parts.SourceLanguage.TheVariants.{Defined, Other}
use Rattle.recipe.specs.declared.parts.Stage.{Stage}
use Rattle.recipe.specs.Kept.{IsRecipe}
use Rattle.recipe.specs.Lookups.{hex_check, is_hex, source_named}
use Rattle.report.specs.declared.types.CompareLine.{CompareLine}
use Rattle.report.specs.declared.types.Report.{Report}
use Rattle.audit_rules.specs.declared.answer.AuditAnswer.TheVariants.{Completes}
use Rattle.audit_rules.specs.Bench.{bench, compare_line, compared_at}
use Rattle.audit_rules.specs.Contents.{Contents, box_of, check_language, content, defined, program_of}
use Rattle.audit_rules.specs.Stages.{output_of}
use Rattle.audit_rules.specs.Valid.{IsInputs}
use Rattle.audit_rules.proofs.GivenBoxes.{box-is}
use Rattle.audit_rules.proofs.Rules as rules
use Rattle.wheeler.specs.AllContents.{all_contents, text_named}
use Rattle.wheeler.specs.Assumptions.{Holds, trust_lines}
use Rattle.wheeler.specs.Checked.{HasCheckItems, HasItemsOf, IsCheckValue, IsCheckedIn}
use Rattle.wheeler.specs.Concludes.{Concludes, ConcludesBy, ConcludesDifferent, ConcludesEqual}
use Rattle.wheeler.specs.Differing.{IsExcluded, IsExcludedByOwn, IsNoValue}
use Rattle.wheeler.specs.Follows.{FollowsBy, HasParent, IsComparedStage, IsOnlyContent, PrescribesOnly, audited_binary}
use Rattle.wheeler.specs.Meaning.{Compiles, Implements, Prescribes}
use Rattle.wheeler.specs.Routes.{RouteHolds, is_on, route_by, route_named}
use Rattle.wheeler.specs.Values.{binary_of}
use Rattle.wheeler.proofs.Argument.{follows-law}
use Rattle.wheeler.proofs.Items.{checked-items}
use Rattle.wheeler.proofs.Gathering.{Reached, reached}
use Rattle.wheeler.proofs.Ran.{Ran}
use Rattle.wheeler.proofs.RouteLines.{routes-hold}
use Rattle.wheeler.proofs.RouteSuffices.{found-at, suffices}
use Rattle.wheeler.proofs.Sound.{Laws}
use Rattle.wheeler.proofs.Values.{checked-value, no-difference, some-difference}

-- what a search finds is an element that passes
pub found : {X : Type 0} (test : X → Bool) (P : X → Type 0) (xs : List X) (x : X) → All P xs → find test xs ≡ Some x → P x × (test x ≡ true)
found test P [] x all is = absurd cc
found test P (y ∷ ys) x all is = by_test (test y) refl is (λ later. found test P ys x (All-tail P y ys all) later) where
  by_test : (b : Bool) → test y ≡ b → cond b (Some y) (find test ys) ≡ Some x → (find test ys ≡ Some x → P x × (test x ≡ true)) → P x × (test x ≡ true)
  by_test true was is later =
      let same = same_Some y x is in
      (subst P same (All-head P y ys all), ap test (sym same) ∙ was)
  by_test false was is later = later is

-- checked in a language that is not M1: the check's source is one of hex0, hex1 or hex2
hex-checked : (recipe : RecipeContents) (stage : Stage) (language : Language) (source : List ℕ) → IsCheckedIn recipe stage language source → language ≢ M1
    → option_and_then (hex_check recipe.sources) stage.check ≡ Some source
unfolding check_language
hex-checked recipe stage language source checked other = rw checked.named (by (source_named recipe.sources source) (rw checked.named at checked.defined)) where
  spoken : (lang : SourceLanguage) → defined lang ≡ Some language → (if is_hex lang then Some source else None) ≡ Some source
  spoken (Defined Hex0) is = refl
  spoken (Defined Hex1) is = refl
  spoken (Defined Hex2) is = refl
  spoken (Defined M1) is = absurd (other cc)
  spoken Other is = absurd cc

  by : (o : Option Source) → option_and_then (λ (s : Source). defined s.lang) o ≡ Some language → option_and_then (λ (s : Source). if is_hex s.lang then Some source else None) o ≡ Some source
  by None is = absurd cc
  by (Some s) is = spoken s.lang is

module _ (prescribes : Prescribes) (compiles : Compiles) (laws : Laws prescribes compiles) (recipe : RecipeContents) (inputs : List (List ℕ)) (report : Report) (ok : IsRecipe recipe)
    (r : Reached recipe inputs report) (name : List ℕ) where
  abbrev all : Contents
  all = all_contents recipe inputs

  -- the stage of the name follows from the lines of its route
  follows : RouteHolds prescribes compiles recipe inputs name → (stage : Stage) → IsComparedStage recipe name stage → FollowsBy prescribes recipe all stage stage.check
  unfolding route_named
  follows lines stage at =
      let at_index = found-at (λ (s : Stage). bytes_eq s.name name) recipe.stages stage at in
      suffices prescribes compiles laws recipe inputs report ok r at_index.0 stage at_index.1
      (subst (λ names. All (Holds prescribes compiles recipe all) (trust_lines (is_on names) recipe)) (ap (route_by recipe) at) lines)

  -- the stage of the name: what holds of all stages holds of it
  of-compared : (P : Stage → Type 0) (stage : Stage) → All P recipe.stages → IsComparedStage recipe name stage → P stage
  of-compared P stage each at = (found (λ (s : Stage). bytes_eq s.name name) P recipe.stages stage each at).0

  own-name : (stage : Stage) → IsComparedStage recipe name stage → stage.name ≡ name
  own-name stage at =
      (bytes_eq-Decides stage.name name).0
      (found (λ (s : Stage). bytes_eq s.name name) (λ _. Unit {0}) recipe.stages stage (λ _ _ _. tt) at).1

  ran : (stage : Stage) → IsComparedStage recipe name stage → Ran recipe all stage (content recipe all stage.name)
  ran stage at = of-compared (λ (s : Stage). Ran recipe all s (content recipe all s.name)) stage r.ran at

  valid : (stage : Stage) → IsComparedStage recipe name stage → IsBox (box_of recipe all stage)
  valid stage at = box-is recipe all stage r.are (of-compared rules.IsStage stage (rules.rules recipe ok).stages at)

  -- the parent source is the one that follows
  prescribed : (stage : Stage) (source : List ℕ) → HasParent recipe name stage source → FollowsBy prescribes recipe all stage stage.check
      → Implements prescribes (program_of recipe all stage) (text_named recipe all source) × PrescribesOnly prescribes recipe all stage source (content recipe all stage.name)
  prescribed stage source parent each =
      let here = subst (FollowsBy prescribes recipe all stage) parent.unchecked each in
      let same = same_Some here.source source (sym here.parent ∙ parent.parent) in
      subst (λ s. Implements prescribes (program_of recipe all stage) (text_named recipe all s) × PrescribesOnly prescribes recipe all stage s (content recipe all stage.name)) same
      (here.implements, here.prescribed)

  equalling : content recipe all name ≡ audited_binary recipe inputs → (stage : Stage) → IsComparedStage recipe name stage → content recipe all stage.name ≡ audited_binary recipe inputs
  equalling same stage at = ap (content recipe all) (own-name stage at) ∙ same

  only : content recipe all name ≡ audited_binary recipe inputs → RouteHolds prescribes compiles recipe inputs name → IsOnlyContent prescribes recipe inputs name
  only same lines stage source parent =
      subst (PrescribesOnly prescribes recipe all stage source) (equalling same stage parent.compared)
      (prescribed stage source parent (follows lines stage parent.compared)).1

  differing : content recipe all name ≢ audited_binary recipe inputs → (stage : Stage) → IsComparedStage recipe name stage → content recipe all stage.name ≢ audited_binary recipe inputs
  differing differs stage at same = differs (sym (ap (content recipe all) (own-name stage at)) ∙ same)

  excluded_by_own : content recipe all name ≢ audited_binary recipe inputs → IsExcludedByOwn prescribes recipe inputs name
  excluded_by_own differs stage source parent own program leaves implements =
      let text = text_named recipe all source in
      let box = box_of recipe all stage in
      let ok_box = valid stage parent.compared in
      let mine = ran stage parent.compared in
      let good = own box mine.step mine.world (output_of stage.output) (content recipe all stage.name) ok_box mine.runs mine.there in
      let bad = implements box leaves.step leaves.world (output_of stage.output) (audited_binary recipe inputs) ok_box leaves.runs leaves.there in
      differing differs stage parent.compared (laws.fixed text box (output_of stage.output) (content recipe all stage.name) (audited_binary recipe inputs) good bad)

  excluded : content recipe all name ≢ audited_binary recipe inputs → RouteHolds prescribes compiles recipe inputs name → IsExcluded prescribes recipe inputs name
  excluded differs lines stage source parent = excluded_by_own differs stage source parent (prescribed stage source parent (follows lines stage parent.compared)).0

  own-value : (stage : Stage) (source : List ℕ) → IsComparedStage recipe name stage → option_and_then (hex_check recipe.sources) stage.check ≡ Some source
      → binary_of (text_named recipe all source) ≡ Some (content recipe all stage.name)
  own-value stage source at is = by_check stage.check refl is where
    by_check : (o : Option (List ℕ)) → stage.check ≡ o → option_and_then (hex_check recipe.sources) o ≡ Some source
        → binary_of (text_named recipe all source) ≡ Some (content recipe all stage.name)
    by_check None was is = absurd cc
    by_check (Some check) was is = checked-value recipe all stage check source (content recipe all stage.name) was is (ran stage at).right

  value : content recipe all name ≡ audited_binary recipe inputs → IsCheckValue recipe inputs name
  value same stage language source at checked other = own-value stage source at (hex-checked recipe stage language source checked other) ∙ ap Some (equalling same stage at)

  items : content recipe all name ≡ audited_binary recipe inputs → HasCheckItems recipe inputs name
  items same stage source at checked =
      subst (HasItemsOf (text_named recipe all source)) (equalling same stage at)
      (checked-items recipe all stage source (content recipe all stage.name) checked.named checked.defined (ran stage at).right)

  no_value : content recipe all name ≢ audited_binary recipe inputs → IsNoValue recipe inputs name
  no_value differs stage language source at checked other value =
      let own = own-value stage source at (hex-checked recipe stage language source checked other) in
      differing differs stage at (same_Some (content recipe all stage.name) (audited_binary recipe inputs) (sym own ∙ value))

  equal : content recipe all name ≡ audited_binary recipe inputs → ConcludesEqual prescribes compiles recipe inputs name
  equal same = record { only = only same; value = value same; items = items same }

  different : content recipe all name ≢ audited_binary recipe inputs → ConcludesDifferent prescribes compiles recipe inputs name
  different differs = record { excluded = excluded differs; excluded_by_own = excluded_by_own differs; no_value = no_value differs }

  by-line : (o : Option ℕ) → first_difference (content recipe all name) (audited_binary recipe inputs) ≡ o
      → ConcludesBy prescribes compiles recipe inputs name (compared_at o (content recipe all name) (audited_binary recipe inputs))
  by-line None none = equal (no-difference _ _ none)
  by-line (Some offset) some = different (some-difference _ _ offset some)

  pub concluded : ConcludesBy prescribes compiles recipe inputs name (compare_line recipe (all_contents recipe inputs) name).result
  concluded = by-line (first_difference (content recipe all name) (audited_binary recipe inputs)) refl

-- a line for each element
each-line : {A B : Type 0} (R : A → B → Type 0) (f : A → B) (xs : List A) → ((x : A) → R x (f x)) → AllZip R xs (map f xs)
each-line R f [] holds = tt
each-line R f (x ∷ xs) holds = (holds x, each-line R f xs holds)

pub concludes-law : (prescribes : Prescribes) (compiles : Compiles) → Laws prescribes compiles → (recipe : RecipeContents) (inputs : List (List ℕ)) (report : Report) → IsRecipe recipe
    → IsInputs recipe inputs → bench recipe inputs ≡ Completes report → Concludes prescribes compiles recipe inputs report.compare
concludes-law prescribes compiles laws recipe inputs report ok given is =
    let r = reached recipe inputs report ok given is in
    let By : List ℕ → CompareLine → Type 0 = λ name line. ConcludesBy prescribes compiles recipe inputs name line.result in
    record {
      all = record {
        follows = λ lines. follows-law prescribes compiles laws recipe (all_contents recipe inputs) ok r.are r.ran lines;
        routes = λ lines name. routes-hold prescribes compiles recipe inputs name lines;
      };
      each = subst (AllZip By recipe.compare.stages) r.lines
          (each-line By (compare_line recipe (all_contents recipe inputs)) recipe.compare.stages (λ name. concluded prescribes compiles laws recipe inputs report ok r name));
    }
