-- What follows about an audit's stages. docs/reference/argument.md says the same for people.
use Rattle.std.specs.Prelude.{◌≡◌, ℕ, Option, None, Some, IfSome, List, All}
use Rattle.recipe.specs.declared.contents.RecipeContents.{RecipeContents}
use Rattle.recipe.specs.declared.parts.Stage.{Stage}
use Rattle.recipe.specs.Lookups.{hex_check, source_of}
use Rattle.audit_rules.specs.Contents.{Contents, box_of, content, program_of}
use Rattle.audit_rules.specs.Stages.{output_of}
use Rattle.wheeler.specs.AllContents.{all_contents, stage_named, text_named}
use Rattle.wheeler.specs.Meaning.{Implements, Prescribes}

-- the source of a name prescribes a content for a stage: in its execution context, at its output
abbrev pub PrescribesFor : Prescribes → RecipeContents → Contents → Stage → List ℕ → List ℕ → Type 0
PrescribesFor prescribes recipe all stage source made =
    prescribes (text_named recipe all source) (box_of recipe all stage) (output_of stage.output) made

-- the source prescribes this content for the stage and no other
pub record PrescribesOnly (prescribes : Prescribes) (recipe : RecipeContents) (all : Contents) (stage : Stage) (source made : List ℕ) : Type 0 where
  pub this : PrescribesFor prescribes recipe all stage source made
  pub no_other : (other : List ℕ) → PrescribesFor prescribes recipe all stage source other → other ≡ made

-- an unchecked stage follows: its program has a source and implements it, and that source prescribes exactly the stage's artefact
pub record FollowsUnchecked (prescribes : Prescribes) (recipe : RecipeContents) (all : Contents) (stage : Stage) : Type 0 where
  pub source : List ℕ
  pub parent : source_of recipe stage.program ≡ Some source
  pub implements : Implements prescribes (program_of recipe all stage) (text_named recipe all source)
  pub prescribed : PrescribesOnly prescribes recipe all stage source (content recipe all stage.name)

-- a stage follows by its check: in hex0, hex1 and hex2 its artefact implements the check's source
abbrev pub FollowsBy : Prescribes → RecipeContents → Contents → Stage → Option (List ℕ) → Type 0
FollowsBy prescribes recipe all stage None = FollowsUnchecked prescribes recipe all stage
FollowsBy prescribes recipe all stage (Some check) =
    IfSome (hex_check recipe.sources check) (λ source. Implements prescribes (content recipe all stage.name) (text_named recipe all source))

-- every stage of an audit follows
abbrev pub Follows : Prescribes → RecipeContents → List (List ℕ) → Type 0
Follows prescribes recipe inputs =
    All (λ (stage : Stage). FollowsBy prescribes recipe (all_contents recipe inputs) stage stage.check) recipe.stages

-- ---- the compared stages and the audited binary

abbrev pub audited_binary : RecipeContents → List (List ℕ) → List ℕ
audited_binary recipe inputs = content recipe (all_contents recipe inputs) recipe.compare.binary

-- the stage of a name is this one
abbrev pub IsComparedStage : RecipeContents → List ℕ → Stage → Type 0
IsComparedStage recipe name stage = stage_named recipe.stages name ≡ Some stage

-- the stage of a name is this one, it is unchecked, and its program has this source: the parent source
pub record HasParent (recipe : RecipeContents) (name : List ℕ) (stage : Stage) (source : List ℕ) : Type 0 where
  pub compared : IsComparedStage recipe name stage
  pub unchecked : stage.check ≡ None
  pub parent : source_of recipe stage.program ≡ Some source

-- the stage of a name exists, and if it is unchecked it has a parent source
pub record HasCompared (recipe : RecipeContents) (name : List ℕ) : Type 0 where
  pub stage : Stage
  pub compared : IsComparedStage recipe name stage
  pub parent : stage.check ≡ None → (source : List ℕ) × HasParent recipe name stage source

-- the parent source prescribes exactly the audited binary for the stage of a name
abbrev pub IsOnlyContent : Prescribes → RecipeContents → List (List ℕ) → List ℕ → Type 0
IsOnlyContent prescribes recipe inputs name =
    (stage : Stage) (source : List ℕ) → HasParent recipe name stage source
    → PrescribesOnly prescribes recipe (all_contents recipe inputs) stage source (audited_binary recipe inputs)
