-- With the largest relation that Carry allows, the lines of an audit hold exactly where each program of an unchecked stage implements its source.
use Rattle.std.proofs.Common.{◌≡◌, ℕ, ◌||◌, Bool, true, false, cond, Option, None, Some, List, [], ◌∷◌, get_or, length, refl, sym, subst, arith, All}
use Rattle.std.specs.Prelude.{IfSome, bytes_eq, filter_map, slice_get}
use Rattle.std.specs.List.{cons_option, list_any}
use Rattle.std.proofs.lemmas.Bool.{and_parts}
use Rattle.std.proofs.lemmas.List.Elements.{All-append, All-cons, All-head, All-nil, All-tail}
use Rattle.std.proofs.lemmas.Slice.Eq.{bytes_eq-Decides}
use Rattle.recipe.specs.declared.contents.RecipeContents.{RecipeContents}
use Rattle.recipe.specs.declared.parts.Input.{Input}
use Rattle.recipe.specs.declared.parts.Stage.{Stage}
use Rattle.recipe.specs.Kept.{IsRecipe}
use Rattle.recipe.specs.Lookups.{hex_check, source_of}
use Rattle.report.specs.declared.types.Report.{Report}
use Rattle.audit_rules.specs.declared.answer.AuditAnswer.TheVariants.{Completes}
use Rattle.audit_rules.specs.Bench.{bench}
use Rattle.audit_rules.specs.Contents.{Contents, SourceText, box_of, content}
use Rattle.audit_rules.specs.Stages.{output_of}
use Rattle.audit_rules.specs.Valid.{IsInputs}
use Rattle.audit_rules.proofs.GivenBoxes.{AreContents, box-is}
use Rattle.audit_rules.proofs.Rules as rules
use Rattle.wheeler.specs.declared.assumption.Assumption.{Assumption}
use Rattle.wheeler.specs.declared.assumption.Assumption.TheVariants as line
use Rattle.wheeler.specs.AllContents.{all_contents, stage_named, text_named}
use Rattle.wheeler.specs.Assumptions.{Holds, LinesHold, checked_line, compiles_line, implements_line, input_assumption, is_trusted, line_by_check, runs_unchecked, stage_assumption, trust_lines}
use Rattle.wheeler.specs.Inside.LargestLaws.{carry-all}
use Rattle.wheeler.specs.Inside.RunLaws.{IsFixed}
use Rattle.wheeler.specs.Meaning.{Implements, Prescribes}
use Rattle.wheeler.specs.Routes.{RouteHolds, is_on, route_by, route_from, route_named, unless_checked}
use Rattle.wheeler.specs.Values.{binary_of}
use Rattle.wheeler.proofs.Argument.{IsClosed, by-stages, needed-each, sound-law}
use Rattle.wheeler.proofs.Gathering.{reached}
use Rattle.wheeler.proofs.Naming.{stage-placed}
use Rattle.wheeler.proofs.Ran.{Ran}
use Rattle.wheeler.proofs.RouteClosed.{IsBelow, closed-from, meant, more-below, program-below, there, within}
use Rattle.wheeler.proofs.RouteSuffices.{found-at, named-trusted}
use Rattle.wheeler.proofs.Sound.{Laws, Sound}
use Rattle.wheeler.specs.ProgramsImplement.{ProgramsImplement, RouteImplements, TheseImplement}
use Rattle.wheeler.specs.Largest.{AllImplement}
use Rattle.wheeler.proofs.Largest.{what-was-made}

-- ---- lists

any-holds : {X : Type 0} (p : X → Bool) (P : X → Type 0) (Goal : Type 0) (xs : List X) → All P xs → list_any p xs ≡ true → ((x : X) → P x → p x ≡ true → Goal) → Goal
any-holds p P Goal [] all is goes = absurd cc
any-holds p P Goal (x ∷ xs) all is goes = by (p x) refl is (λ later. any-holds p P Goal xs (All-tail P x xs all) later goes) where
  by : (b : Bool) → p x ≡ b → (b || list_any p xs) ≡ true → (list_any p xs ≡ true → Goal) → Goal
  by true was is later = goes x (All-head P x xs all) was
  by false was is later = later is

cons-holds : {A : Type 0} (P : A → Type 0) (o : Option A) (xs : List A) → IfSome o P → All P xs → All P (cons_option o xs)
cons-holds P None xs one all = all
cons-holds P (Some x) xs one all = All-cons P x xs one all

filter_map-All : {X A : Type 0} (P : A → Type 0) (f : X → Option A) (xs : List X) → All (λ x. IfSome (f x) P) xs → All P (filter_map f xs)
filter_map-All P f [] all = All-nil P
filter_map-All P f (x ∷ xs) all =
    cons-holds P (f x) (filter_map f xs) (All-head (λ y. IfSome (f y) P) x xs all) (filter_map-All P f xs (All-tail (λ y. IfSome (f y) P) x xs all))

-- ---- from programs to lines

module _ (prescribes : Prescribes) (laws : Laws prescribes (AllImplement prescribes)) (trusted : List ℕ → Bool) (recipe : RecipeContents) (all : Contents)
    (these : TheseImplement prescribes trusted recipe all) where
  abbrev LineHolds : Option Assumption → Type 0
  LineHolds o = IfSome o (Holds prescribes (AllImplement prescribes) recipe all)

  implements-holds : (name : List ℕ) → trusted name ≡ true → (o : Option (List ℕ)) → source_of recipe name ≡ o → LineHolds (implements_line name o)
  implements-holds name is None at = tt
  implements-holds name is (Some source) at = these name source is at

  input-holds : (input : Input) → LineHolds (input_assumption trusted recipe input)
  unfolding input_assumption
  input-holds input = by (trusted input.name) refl where
    by : (b : Bool) → trusted input.name ≡ b → LineHolds (cond b (implements_line input.name (source_of recipe input.name)) None)
    by true is = implements-holds input.name is (source_of recipe input.name) refl
    by false is = tt

  checked-holds : (name : List ℕ) → trusted name ≡ true → (found o : Option (List ℕ)) → source_of recipe name ≡ o → LineHolds (checked_line name found o)
  checked-holds name is None None at = tt
  checked-holds name is (Some check) None at = tt
  checked-holds name is None (Some source) at = these name source is at
  checked-holds name is (Some check) (Some source) at = by (bytes_eq check source) where
    by : (b : Bool) → LineHolds (cond b None (Some (line.Implements name source)))
    by true = tt
    by false = these name source is at

  module _ (stage : Stage) (found : stage_named recipe.stages stage.name ≡ Some stage) (ran : Ran recipe all stage (content recipe all stage.name))
      (needed : stage.check ≡ None → trusted stage.name ≡ true → trusted stage.program ≡ true) where
    made-holds : rules.IsStage stage → AreContents all → stage.check ≡ None → trusted stage.name ≡ true → (o p : Option (List ℕ)) → source_of recipe stage.program ≡ o
        → source_of recipe stage.name ≡ p → LineHolds (compiles_line o stage.name p)
    made-holds rule are was is None p at to = tt
    made-holds rule are was is (Some source) None at to = tt
    made-holds rule are was is (Some source) (Some becomes) at to =
        let own = what-was-made prescribes laws.fixed (text_named recipe all source) (text_named recipe all becomes) (box_of recipe all stage) (output_of stage.output)
        (content recipe all stage.program) (content recipe all stage.name) ran.step ran.world (box-is recipe all stage are rule)
        (these stage.program source (needed was is) at) ran.runs ran.there in
        subst (λ (o : Option Stage).
        IfSome o (λ (s : Stage). AllImplement prescribes (text_named recipe all source) (box_of recipe all s) (output_of s.output) (text_named recipe all becomes)))
        (sym found) (own.1 (these stage.name becomes is to))

    stage-holds : rules.IsStage stage → AreContents all → LineHolds (stage_assumption trusted recipe stage)
    unfolding stage_assumption
    stage-holds rule are = by (trusted stage.name) refl where
      by_check : trusted stage.name ≡ true → (o : Option (List ℕ)) → stage.check ≡ o → LineHolds (line_by_check recipe stage o)
      by_check is None was = made-holds rule are was is (source_of recipe stage.program) (source_of recipe stage.name) refl refl
      by_check is (Some check) was = checked-holds stage.name is (hex_check recipe.sources check) (source_of recipe stage.name) refl

      by : (b : Bool) → trusted stage.name ≡ b → LineHolds (cond b (line_by_check recipe stage stage.check) None)
      by true is = by_check is stage.check refl
      by false is = tt

  pub lines-hold : IsRecipe recipe → AreContents all → All (λ (s : Stage). Ran recipe all s (content recipe all s.name)) recipe.stages → IsClosed trusted recipe
      → All (Holds prescribes (AllImplement prescribes) recipe all) (trust_lines trusted recipe)
  unfolding trust_lines
  lines-hold ok are ran closed =
      let P : Assumption → Type 0 = Holds prescribes (AllImplement prescribes) recipe all in
      let named = by-stages recipe (λ (s : Stage). stage_named recipe.stages s.name ≡ Some s) [] recipe.stages refl
      (λ earlier stage rest split. (stage-placed recipe earlier stage rest ok split).found) in
      All-append P (filter_map (input_assumption trusted recipe) recipe.inputs) (filter_map (stage_assumption trusted recipe) recipe.stages)
      (filter_map-All P (input_assumption trusted recipe) recipe.inputs (λ k d less. input-holds (get_or recipe.inputs k d)))
      (filter_map-All P (stage_assumption trusted recipe) recipe.stages
      (λ k d less. stage-holds (get_or recipe.stages k d) (named k d less) (ran k d less) (closed k d less) ((rules.rules recipe ok).stages k d less) are))

-- ---- trust goes on along a route

made-there : (recipe : RecipeContents) (ok : IsRecipe recipe) (index : ℕ) (stage : Stage) → slice_get recipe.stages index ≡ Some stage
    → IsBelow (length recipe.stages) (meant recipe ok stage.program)
made-there recipe ok index stage at =
    more-below index (length recipe.stages) (meant recipe ok stage.program) (omega (arith, within recipe.stages index stage at)) (program-below recipe ok index stage at)

from-closed : (recipe : RecipeContents) → IsRecipe recipe → (index : ℕ) (stage : Stage) → slice_get recipe.stages index ≡ Some stage → (o : Option (List ℕ)) → stage.check ≡ o
    → IsClosed (is_on (unless_checked o (route_from recipe.stages (length recipe.stages) stage.program))) recipe
from-closed recipe ok index stage at (Some check) was = λ k d less unchecked on. absurd cc
from-closed recipe ok index stage at None was =
    λ k d less unchecked on.
    closed-from recipe ok (length recipe.stages) stage.program (made-there recipe ok index stage at) k (get_or recipe.stages k d) (there recipe.stages k d less) unchecked on

route-closed : (recipe : RecipeContents) → IsRecipe recipe → (name : List ℕ) → IsClosed (is_on (route_named recipe name)) recipe
unfolding route_named
route-closed recipe ok name = by (stage_named recipe.stages name) (found-at (λ (s : Stage). bytes_eq s.name name) recipe.stages)
  where
    by : (o : Option Stage) → ((x : Stage) → o ≡ Some x → (index : ℕ) × (slice_get recipe.stages index ≡ Some x)) → IsClosed (is_on (route_by recipe o)) recipe
    by None at = λ k d less unchecked on. absurd cc
    by (Some stage) at = let at_index = at stage refl in from-closed recipe ok at_index.0 stage at_index.1 stage.check refl

all-closed : (recipe : RecipeContents) → IsClosed (is_trusted recipe) recipe
all-closed recipe k d less was _ = needed-each recipe k d less was

-- ---- both ways, of an audit

pub largest-laws : (prescribes : Prescribes) → IsFixed prescribes
    → ((source : SourceText) (program : List ℕ) → binary_of source ≡ Some program → Implements prescribes program source) → Laws prescribes (AllImplement prescribes)
largest-laws prescribes fixed literal = record { fixed = fixed; carry = carry-all prescribes; literal = literal }

module _ (prescribes : Prescribes) (laws : Laws prescribes (AllImplement prescribes)) (recipe : RecipeContents) (inputs : List (List ℕ)) (report : Report) (ok : IsRecipe recipe)
    (given : IsInputs recipe inputs) (is : bench recipe inputs ≡ Completes report) where
  these-implement : (trusted : List ℕ → Bool) → ((name : List ℕ) → trusted name ≡ true → is_trusted recipe name ≡ true) → IsClosed trusted recipe
      → All (Holds prescribes (AllImplement prescribes) recipe (all_contents recipe inputs)) (trust_lines trusted recipe)
      → TheseImplement prescribes trusted recipe (all_contents recipe inputs)
  unfolding is_trusted
  these-implement trusted few closed lines name source on at =
      let all = all_contents recipe inputs in
      let r = reached recipe inputs report ok given is in
      let both = sound-law prescribes (AllImplement prescribes) laws trusted recipe all ok r.are r.ran closed lines in
      any-holds (runs_unchecked name) (λ (s : Stage). Sound prescribes trusted recipe all s.program)
      (Implements prescribes (content recipe all name) (text_named recipe all source)) recipe.stages (λ k d less. (both k d less).1) (few name on)
      (λ stage sound test.
      let own : stage.program ≡ name = (bytes_eq-Decides stage.program name).0 ((and_parts _ _ test).1) in
      subst (λ (n : List ℕ). Sound prescribes trusted recipe all n) own sound on source at)

  these-lines : (trusted : List ℕ → Bool) → IsClosed trusted recipe → TheseImplement prescribes trusted recipe (all_contents recipe inputs)
      → All (Holds prescribes (AllImplement prescribes) recipe (all_contents recipe inputs)) (trust_lines trusted recipe)
  these-lines trusted closed these =
      let r = reached recipe inputs report ok given is in
      lines-hold prescribes laws trusted recipe (all_contents recipe inputs) these ok r.are r.ran closed

  pub all-lines : (LinesHold prescribes (AllImplement prescribes) recipe inputs → ProgramsImplement prescribes recipe inputs)
      × (ProgramsImplement prescribes recipe inputs → LinesHold prescribes (AllImplement prescribes) recipe inputs)
  all-lines = (these-implement (is_trusted recipe) (λ name on. on) (all-closed recipe), these-lines (is_trusted recipe) (all-closed recipe))

  pub route-lines : (name : List ℕ) → (RouteHolds prescribes (AllImplement prescribes) recipe inputs name → RouteImplements prescribes recipe inputs name)
      × (RouteImplements prescribes recipe inputs name → RouteHolds prescribes (AllImplement prescribes) recipe inputs name)
  route-lines name = (
    these-implement (is_on (route_named recipe name)) (named-trusted recipe name) (route-closed recipe ok name),
    these-lines (is_on (route_named recipe name)) (route-closed recipe ok name),
  )
