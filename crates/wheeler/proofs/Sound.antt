-- The step of Wheeler's argument: where a stage's program implements its source, so does what the stage makes.
use Rattle.std.proofs.Common.{◌≡◌, ℕ, Bool, true, false, cond, Option, None, Some, List, refl, ap, ap₂, ◌∙◌, subst}
use Rattle.std.specs.Prelude.{IfSome, IsSome, bytes_eq}
use Rattle.std.proofs.lemmas.Slice.Eq.{bytes_eq-Decides}
use Rattle.mem_files.specs.Outputs.{OutputLocation}
use Rattle.guest_run.specs.Setting.{IsBox, Setting}
use Rattle.recipe.specs.declared.contents.RecipeContents.{RecipeContents}
use Rattle.recipe.specs.declared.parts.Input.{Input}
use Rattle.recipe.specs.declared.parts.Stage.{Stage}
use Rattle.recipe.specs.Lookups.{hex_check, source_of}
use Rattle.audit_rules.specs.Contents.{Contents, SourceText, box_of, content}
use Rattle.audit_rules.specs.Stages.{output_of}
use Rattle.wheeler.specs.declared.assumption.Assumption.{Assumption}
use Rattle.wheeler.specs.declared.assumption.Assumption.TheVariants as line
use Rattle.wheeler.specs.AllContents.{stage_named, text_named}
use Rattle.wheeler.specs.Assumptions.{Holds, checked_line, compiles_line, implements_line, input_assumption, line_by_check, stage_assumption}
use Rattle.wheeler.specs.Meaning.{Compiles, Implements, Prescribes}
use Rattle.wheeler.specs.Values.{binary_of}
use Rattle.wheeler.proofs.Ran.{Ran}
use Rattle.wheeler.proofs.Values.{checked-value}

-- the laws of a meaning
pub record Laws (prescribes : Prescribes) (compiles : Compiles) : Type 0 where
  pub fixed : (source : SourceText) (box : Setting) (output : OutputLocation) (one other : List ℕ)
      → prescribes source box output one → prescribes source box output other → one ≡ other
  pub carry : (source other : SourceText) (box : Setting) (output : OutputLocation) (program : List ℕ)
      → prescribes source box output program → compiles source box output other → Implements prescribes program other
  pub literal : (source : SourceText) (program : List ℕ) → binary_of source ≡ Some program → Implements prescribes program source

-- a trusted program implements its source
abbrev pub Sound : Prescribes → (List ℕ → Bool) → RecipeContents → Contents → List ℕ → Type 0
Sound prescribes trusted recipe all name =
    trusted name ≡ true → (source : List ℕ) → source_of recipe name ≡ Some source → Implements prescribes (content recipe all name) (text_named recipe all source)

-- what is known of a stage
pub record Facts (prescribes : Prescribes) (compiles : Compiles) (trusted : List ℕ → Bool) (recipe : RecipeContents) (all : Contents) (stage : Stage) : Type 0 where
  pub found : stage_named recipe.stages stage.name ≡ Some stage
  pub ran : Ran recipe all stage (content recipe all stage.name)
  pub valid : IsBox (box_of recipe all stage)
  pub line : IfSome (stage_assumption trusted recipe stage) (Holds prescribes compiles recipe all)
  pub needed : stage.check ≡ None → trusted stage.name ≡ true → trusted stage.program ≡ true
  pub argued : stage.check ≡ None → IsSome (source_of recipe stage.program)

pub some_of : {A : Type 0} (o : Option A) → IsSome o → (x : A) × (o ≡ Some x)
some_of None is = absurd cc
some_of (Some x) is = (x, refl)

stage_line-trusted : (trusted : List ℕ → Bool) (recipe : RecipeContents) (stage : Stage) → trusted stage.name ≡ true → stage_assumption trusted recipe stage ≡ line_by_check recipe stage stage.check
unfolding stage_assumption
stage_line-trusted trusted recipe stage is = ap (λ b. cond b (line_by_check recipe stage stage.check) None) is

input_line-trusted : (trusted : List ℕ → Bool) (recipe : RecipeContents) (input : Input) → trusted input.name ≡ true
    → input_assumption trusted recipe input ≡ implements_line input.name (source_of recipe input.name)
unfolding input_assumption
input_line-trusted trusted recipe input is = ap (λ b. cond b (implements_line input.name (source_of recipe input.name)) None) is

module _ (prescribes : Prescribes) (compiles : Compiles) (trusted : List ℕ → Bool) (recipe : RecipeContents) (all : Contents) where
  abbrev LineHolds : Option Assumption → Type 0
  LineHolds o = IfSome o (Holds prescribes compiles recipe all)

  pub sound-input : (input : Input) → IfSome (input_assumption trusted recipe input) (Holds prescribes compiles recipe all) → Sound prescribes trusted recipe all input.name
  sound-input input held is_trusted source is =
      subst LineHolds (input_line-trusted trusted recipe input is_trusted ∙ ap (implements_line input.name) is) held

  pub sound-stage : Laws prescribes compiles → (stage : Stage) → Facts prescribes compiles trusted recipe all stage
      → Sound prescribes trusted recipe all stage.program → Sound prescribes trusted recipe all stage.name
  sound-stage laws stage facts earlier is_trusted source is = by_check stage.check refl where
    Goal : Type 0
    Goal = Implements prescribes (content recipe all stage.name) (text_named recipe all source)

    held : LineHolds (line_by_check recipe stage stage.check)
    held = subst LineHolds (stage_line-trusted trusted recipe stage is_trusted) facts.line

    by_same : (check found : List ℕ) → stage.check ≡ Some check → hex_check recipe.sources check ≡ Some found → (b : Bool) → bytes_eq found source ≡ b
        → LineHolds (cond b None (Some (line.Implements stage.name source))) → Goal
    by_same check found was at true same line_holds =
        let value = checked-value recipe all stage check found (content recipe all stage.name) was at facts.ran.right in
        laws.literal (text_named recipe all source) (content recipe all stage.name)
        (subst (λ s. binary_of (text_named recipe all s) ≡ Some (content recipe all stage.name)) ((bytes_eq-Decides found source).0 same) value)
    by_same check found was at false same line_holds = line_holds

    by_hex : (check : List ℕ) → stage.check ≡ Some check → (o : Option (List ℕ)) → hex_check recipe.sources check ≡ o
        → LineHolds (checked_line stage.name o (Some source)) → Goal
    by_hex check was None at line_holds = line_holds
    by_hex check was (Some found) at line_holds = by_same check found was at (bytes_eq found source) refl line_holds

    by_check : (o : Option (List ℕ)) → stage.check ≡ o → Goal
    by_check None was =
        let program = some_of (source_of recipe stage.program) (facts.argued was) in
        let there : LineHolds (compiles_line (Some program.0) stage.name (Some source)) =
        subst LineHolds (ap (line_by_check recipe stage) was ∙ ap₂ (λ a b. compiles_line a stage.name b) program.1 is) held in
        let P : Option Stage → Type 0 =
        λ o. IfSome o (λ (s : Stage). compiles (text_named recipe all program.0) (box_of recipe all s) (output_of s.output) (text_named recipe all source)) in
        let compiling : compiles (text_named recipe all program.0) (box_of recipe all stage) (output_of stage.output) (text_named recipe all source) =
        subst P facts.found there in
        let r = facts.ran in
        let made = earlier (facts.needed was is_trusted) program.0 program.1 (box_of recipe all stage) r.step r.world (output_of stage.output) (content recipe all stage.name) facts.valid r.runs r.there in
        laws.carry (text_named recipe all program.0) (text_named recipe all source) (box_of recipe all stage) (output_of stage.output) (content recipe all stage.name) made compiling
    by_check (Some check) was =
        by_hex check was (hex_check recipe.sources check) refl
        (subst LineHolds (ap (line_by_check recipe stage) was ∙ ap (checked_line stage.name (hex_check recipe.sources check)) is) held)
