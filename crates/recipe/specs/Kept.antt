-- What holds of every recipe, so that no layer above tests it again (docs/reference/recipe.md).
use Rattle.std.specs.Prelude.{◌≡◌, ℕ, ◌≤◌, IsTrue, true, List, ◌++◌, length, map, take, bytes_eq, slice_get, Option, Some, None, IsSome, IfSome, ◌==◌, if◌then◌else◌}
use Rattle.std.specs.List.{IsDistinct}
use Rattle.sha2.specs.Sha256.{sha256}
use Rattle.ddc_base.specs.Names.{IsName}
use Rattle.ddc_base.specs.Limits.{most_address, most_heap, most_steps}
use Rattle.mem_files.specs.Names.{is_stripped_name}
use Rattle.recipe.specs.Text.Reading.{is_path, is_word}
use Rattle.recipe.specs.declared.contents.RecipeContents.{RecipeContents}
use Rattle.recipe.specs.declared.parts.Input.{Input}
use Rattle.recipe.specs.declared.parts.Output.{Output}
use Rattle.recipe.specs.declared.parts.Output.TheVariants.{Stream, File}
use Rattle.recipe.specs.declared.parts.Source.{Source}
use Rattle.recipe.specs.declared.parts.Stage.{Stage}
use Rattle.recipe.specs.declared.parts.StageFile.{StageFile}
use Rattle.recipe.specs.Lookups.{content_named, input_at, source_named, source_of, stage_at}
use Rattle.recipe.specs.SecondWalk.{is_defined}
use Rattle.recipe.specs.Tables.{IsFormat}

-- P holds of the element at each index
abbrev pub Each : {A : Type 0} → (A → Type 0) → List A → Type 0
Each {A} P xs = (i : ℕ) (x : A) → slice_get xs i ≡ Some x → P x

-- the source exists, if there is a name
abbrev pub NamesSource : List Source → Option (List ℕ) → Type 0
NamesSource sources name = IfSome name (λ name. IsSome (source_named sources name))

-- the name stands for an input or for the artefact of one of these stages
abbrev pub IsMade : RecipeContents → List Stage → List ℕ → Type 0
IsMade parsed stages name = IsSome (content_named parsed.inputs stages name)

-- a path of a program's file
pub record IsGuestPath (text : List ℕ) : Type 0 where
  pub path : IsTrue (is_path text)
  pub stripped : IsTrue (is_stripped_name text)

-- ---- inputs

pub record IsInput (parsed : RecipeContents) (input : Input) : Type 0 where
  pub name : IsName input.name
  pub path : IsTrue (is_path input.path)
  pub implements : NamesSource parsed.sources input.implements

-- ---- sources

pub record IsSource (parsed : RecipeContents) (source : Source) : Type 0 where
  pub name : IsName source.name
  pub base : source.base ≤ most_address
  pub some_files : 1 ≤ length source.files
  pub few_files : length source.files ≤ 64
  pub files : Each (IsMade parsed parsed.stages) source.files

-- ---- stages, with those before them

pub record IsStageFile (parsed : RecipeContents) (earlier : List Stage) (file : StageFile) : Type 0 where
  pub path : IsGuestPath file.path
  pub from : IsMade parsed earlier file.from

abbrev pub IsOutput : Output → Type 0
IsOutput Stream = Unit {0}
IsOutput (File path) = IsGuestPath path

-- a source against which a stage is checked
pub record Checks (parsed : RecipeContents) (earlier : List Stage) (source : Source) : Type 0 where
  pub files : Each (IsMade parsed earlier) source.files
  pub defined : is_defined source.lang ≡ true

abbrev pub IsCheck : RecipeContents → List Stage → Option (List ℕ) → Type 0
IsCheck parsed earlier check = IfSome check (λ name. (source : Source) × (source_named parsed.sources name ≡ Some source) × Checks parsed earlier source)

pub record IsStage (parsed : RecipeContents) (earlier : List Stage) (stage : Stage) : Type 0 where
  pub name : IsName stage.name
  pub program : IsMade parsed earlier stage.program
  pub some_args : 1 ≤ length stage.args
  pub few_args : length stage.args ≤ 64
  pub args : Each (λ text. IsTrue (is_word text)) stage.args
  pub few_env : length stage.env ≤ 64
  pub env : Each (λ text. IsTrue (is_word text)) stage.env
  pub few_files : length stage.files ≤ 256
  pub files : Each (IsStageFile parsed earlier) stage.files
  pub distinct : IsDistinct bytes_eq (map (λ file. file.path) stage.files)
  pub output : IsOutput stage.output
  pub some_steps : 1 ≤ stage.steps
  pub few_steps : stage.steps ≤ most_steps
  pub heap : stage.heap ≤ most_heap
  pub check : IsCheck parsed earlier stage.check
  pub becomes : NamesSource parsed.sources stage.becomes
  -- the program of an unchecked stage has a source
  pub argued : stage.check ≡ None → IsSome (source_of parsed stage.program)

-- ---- the recipe

-- the names of all tables
abbrev pub all_names : RecipeContents → List (List ℕ)
all_names parsed = map (λ input. input.name) parsed.inputs ++ map (λ source. source.name) parsed.sources ++ map (λ stage. stage.name) parsed.stages

-- the largest number of stages that a recipe of a format compares
abbrev pub most_compared : ℕ → ℕ
most_compared format = if format == 1 then 1 else 16

pub record IsRecipe (parsed : RecipeContents) : Type 0 where
  pub format : IsFormat parsed.format
  -- the digest is that of some bytes
  pub digest : (bytes : List ℕ) × (parsed.digest.0 ≡ sha256 bytes)
  pub some_inputs : 1 ≤ length parsed.inputs
  pub few_inputs : length parsed.inputs ≤ 256
  pub few_sources : length parsed.sources ≤ 256
  pub some_stages : 1 ≤ length parsed.stages
  pub few_stages : length parsed.stages ≤ 256
  pub names : IsDistinct bytes_eq (all_names parsed)
  pub inputs : Each (IsInput parsed) parsed.inputs
  pub sources : Each (IsSource parsed) parsed.sources
  pub stages : (i : ℕ) (stage : Stage) → slice_get parsed.stages i ≡ Some stage → IsStage parsed (take i parsed.stages) stage
  pub some_compared : 1 ≤ length parsed.compare.stages
  pub few_compared : length parsed.compare.stages ≤ most_compared parsed.format
  pub compared_once : IsDistinct bytes_eq parsed.compare.stages
  pub compared : Each (λ name. IsSome (stage_at parsed.stages name)) parsed.compare.stages
  pub binary : IsSome (input_at parsed.inputs parsed.compare.binary)
