-- Lines that a comparison of bytes settles hold.
use Rattle.std.proofs.Common.{◌≡◌, ℕ, Option, None, Some, List, refl, sym, subst, All}
use Rattle.std.specs.Prelude.{IfSome, bytes_eq, slice_get}
use Rattle.mem_files.specs.Outputs.{OutputLocation}
use Rattle.guest_run.specs.Setting.{Setting}
use Rattle.recipe.specs.declared.contents.RecipeContents.{RecipeContents}
use Rattle.recipe.specs.declared.parts.Stage.{Stage}
use Rattle.recipe.specs.Kept.{IsRecipe}
use Rattle.report.specs.declared.types.Report.{Report}
use Rattle.audit_rules.specs.declared.answer.AuditAnswer.TheVariants.{Completes}
use Rattle.audit_rules.specs.Bench.{bench}
use Rattle.audit_rules.specs.Contents.{Contents, SourceText, box_of, content}
use Rattle.audit_rules.specs.Stages.{output_of}
use Rattle.audit_rules.specs.Valid.{IsInputs}
use Rattle.audit_rules.proofs.GivenBoxes.{AreContents, box-is}
use Rattle.audit_rules.proofs.Rules as rules
use Rattle.wheeler.specs.declared.assumption.Assumption.{Assumption}
use Rattle.wheeler.specs.declared.assumption.Assumption.TheVariants as line
use Rattle.wheeler.specs.AllContents.{all_contents, stage_named, text_named}
use Rattle.wheeler.specs.Assumptions.{Holds}
use Rattle.wheeler.specs.Inside.RunLaws.{IsFixed}
use Rattle.wheeler.specs.Largest.{AllImplement}
use Rattle.wheeler.specs.MacroAssembly.{MacroLeaves, program_of_text}
use Rattle.wheeler.specs.Meaning.{Prescribes}
use Rattle.wheeler.specs.Settled.{IsSettledLine, KnowsMacroCode, MakesOwnProgram}
use Rattle.wheeler.specs.WithMacroCode.{MacroCodeOr, macro_code_or_by}
use Rattle.wheeler.proofs.Gathering.{reached}
use Rattle.wheeler.proofs.Largest.{what-was-made}
use Rattle.wheeler.proofs.Ran.{Ran}
use Rattle.wheeler.proofs.RouteClosed.{element, within}
use Rattle.wheeler.proofs.RouteSuffices.{found-at}

-- what is of every element is of the one at an index
at-index : {A : Type 0} (P : A → Type 0) (xs : List A) (index : ℕ) (x : A) → All P xs → slice_get xs index ≡ Some x → P x
at-index P xs index x all at = subst P (element xs index x x at) (all index x (within xs index x at))

module _ (prescribes : Prescribes) (fixed : IsFixed prescribes) (knows : KnowsMacroCode prescribes) (recipe : RecipeContents) (all : Contents) where
  compiles-holds : (source becomes : List ℕ) (stage : Stage) → AreContents all → rules.IsStage stage → Ran recipe all stage (content recipe all stage.name)
      → MakesOwnProgram recipe all source becomes stage
      → AllImplement prescribes (text_named recipe all source) (box_of recipe all stage) (output_of stage.output) (text_named recipe all becomes)
  compiles-holds source becomes stage are rule ran own =
      (what-was-made prescribes fixed (text_named recipe all source) (text_named recipe all becomes) (box_of recipe all stage) (output_of stage.output)
      (content recipe all stage.program) (content recipe all stage.name) ran.step ran.world (box-is recipe all stage are rule)
      (knows (text_named recipe all source) (content recipe all stage.program) own.runs) ran.runs ran.there).1
      (knows (text_named recipe all becomes) (content recipe all stage.name) own.makes)

  line-holds : IsRecipe recipe → AreContents all → All (λ (s : Stage). Ran recipe all s (content recipe all s.name)) recipe.stages
      → (l : Assumption) → IsSettledLine recipe all l → Holds prescribes (AllImplement prescribes) recipe all l
  line-holds ok are ran (line.Implements name source) own = knows (text_named recipe all source) (content recipe all name) own
  line-holds ok are ran (line.Compiles source name becomes) own =
      by (stage_named recipe.stages name) (found-at (λ (s : Stage). bytes_eq s.name name) recipe.stages) own where
        by : (o : Option Stage) → ((x : Stage) → o ≡ Some x → (index : ℕ) × (slice_get recipe.stages index ≡ Some x))
            → IfSome o (MakesOwnProgram recipe all source becomes)
            → IfSome o (λ (s : Stage). AllImplement prescribes (text_named recipe all source) (box_of recipe all s) (output_of s.output) (text_named recipe all becomes))
        by None at own = tt
        by (Some stage) at own =
            let at_index = at stage refl in
            compiles-holds source becomes stage are (at-index rules.IsStage recipe.stages at_index.0 stage (rules.rules recipe ok).stages at_index.1)
            (at-index (λ (s : Stage). Ran recipe all s (content recipe all s.name)) recipe.stages at_index.0 stage ran at_index.1) own

pub settled-holds : (prescribes : Prescribes) → IsFixed prescribes → KnowsMacroCode prescribes → (recipe : RecipeContents) (inputs : List (List ℕ)) (report : Report)
    → IsRecipe recipe → IsInputs recipe inputs → bench recipe inputs ≡ Completes report → (l : Assumption) → IsSettledLine recipe (all_contents recipe inputs) l
    → Holds prescribes (AllImplement prescribes) recipe (all_contents recipe inputs) l
settled-holds prescribes fixed knows recipe inputs report ok given is l own =
    let r = reached recipe inputs report ok given is in
    line-holds prescribes fixed knows recipe (all_contents recipe inputs) ok r.are r.ran l own

-- ---- M1 beside other languages

pub as-macro : (others : Prescribes) (source : SourceText) (program : List ℕ) → program_of_text source ≡ Some program
    → (box : Setting) (output : OutputLocation) (content : List ℕ)
    → (MacroCodeOr others source box output content → MacroLeaves source box output content) × (MacroLeaves source box output content → MacroCodeOr others source box output content)
as-macro others source program some box output content = (
  (λ is. subst (λ (o : Option (List ℕ)). macro_code_or_by o others source box output content) some is),
  (λ is. subst (λ (o : Option (List ℕ)). macro_code_or_by o others source box output content) (sym some) is),
)

pub as-given-beside : (others : Prescribes) (source : SourceText) → program_of_text source ≡ None → (box : Setting) (output : OutputLocation) (content : List ℕ)
    → (MacroCodeOr others source box output content → others source box output content) × (others source box output content → MacroCodeOr others source box output content)
as-given-beside others source none box output content = (
  (λ is. subst (λ (o : Option (List ℕ)). macro_code_or_by o others source box output content) none is),
  (λ is. subst (λ (o : Option (List ℕ)). macro_code_or_by o others source box output content) (sym none) is),
)
