-- What follows when the audited binary differs from a compared stage. docs/reference/argument.md says the same for people.
use Rattle.std.specs.Prelude.{◌≡◌, ◌≢◌, ℕ, Some, List}
use Rattle.ddc_base.specs.declared.languages.Language.{Language}
use Rattle.ddc_base.specs.declared.languages.Language.TheVariants.{M1}
use Rattle.mem_files.specs.Outputs.{out}
use Rattle.mem_files.specs.World.{World}
use Rattle.guest_run.specs.Program.{ProgramRun}
use Rattle.recipe.specs.declared.contents.RecipeContents.{RecipeContents}
use Rattle.recipe.specs.declared.parts.Stage.{Stage}
use Rattle.audit_rules.specs.Contents.{Contents, box_of, program_of}
use Rattle.audit_rules.specs.Stages.{output_of}
use Rattle.wheeler.specs.AllContents.{all_contents, text_named}
use Rattle.wheeler.specs.Checked.{IsCheckedIn}
use Rattle.wheeler.specs.Follows.{HasParent, IsComparedStage, audited_binary}
use Rattle.wheeler.specs.Meaning.{Implements, Prescribes}
use Rattle.wheeler.specs.Values.{binary_of}

-- the program, in a stage's execution context, exits with 0 and leaves a content at the stage's output
pub record Leaves (recipe : RecipeContents) (all : Contents) (stage : Stage) (program made : List ℕ) : Type 0 where
  pub step : ℕ
  pub world : World
  pub runs : ProgramRun program (box_of recipe all stage) step 0 world
  pub there : out world (output_of stage.output) ≡ Some made

-- no program that leaves the audited binary in the compared stage's execution context implements the parent source
abbrev pub IsNoProgram : Prescribes → RecipeContents → List (List ℕ) → Stage → List ℕ → Type 0
IsNoProgram prescribes recipe inputs stage source =
    (program : List ℕ) → Leaves recipe (all_contents recipe inputs) stage program (audited_binary recipe inputs)
    → ¬ (Implements prescribes program (text_named recipe (all_contents recipe inputs) source))

abbrev pub IsExcluded : Prescribes → RecipeContents → List (List ℕ) → List ℕ → Type 0
IsExcluded prescribes recipe inputs name =
    (stage : Stage) (source : List ℕ) → HasParent recipe name stage source → IsNoProgram prescribes recipe inputs stage source

-- if the stage's own program implements the parent source, no program that leaves the audited binary does
abbrev pub IsExcludedByOwn : Prescribes → RecipeContents → List (List ℕ) → List ℕ → Type 0
IsExcludedByOwn prescribes recipe inputs name =
    (stage : Stage) (source : List ℕ) → HasParent recipe name stage source
    → Implements prescribes (program_of recipe (all_contents recipe inputs) stage) (text_named recipe (all_contents recipe inputs) source)
    → IsNoProgram prescribes recipe inputs stage source

-- if the stage of a name is checked in hex0, hex1 or hex2, the audited binary is not the value of the check's source
abbrev pub IsNoValue : RecipeContents → List (List ℕ) → List ℕ → Type 0
IsNoValue recipe inputs name =
    (stage : Stage) (language : Language) (source : List ℕ) → IsComparedStage recipe name stage → IsCheckedIn recipe stage language source → language ≢ M1
    → binary_of (text_named recipe (all_contents recipe inputs) source) ≢ Some (audited_binary recipe inputs)
