-- What a recipe's names stand for: contents by name, the execution context of a stage's program, and the text of a source.
-- docs/reference/audit.md says the same for people.
use Rattle.std.specs.Prelude.{ℕ, Option, Some, None, option_and_then, List, [], map, get_or}
use Rattle.std.specs.List.{fold}
use Rattle.std.specs.FinMap as files
use Rattle.ddc_base.specs.declared.languages.Language.{Language}
use Rattle.guest_run.specs.Setting.{FileMap, Setting}
use Rattle.recipe.specs.declared.contents.RecipeContents.{RecipeContents}
use Rattle.recipe.specs.declared.parts.Content.{Content}
use Rattle.recipe.specs.declared.parts.Content.TheVariants.{Input, Stage as Artefact}
use Rattle.recipe.specs.declared.parts.Source.{Source}
use Rattle.recipe.specs.declared.parts.SourceLanguage.{SourceLanguage}
use Rattle.recipe.specs.declared.parts.SourceLanguage.TheVariants.{Defined, Other}
use Rattle.recipe.specs.declared.parts.Stage.{Stage}
use Rattle.recipe.specs.declared.parts.StageFile.{StageFile}
use Rattle.recipe.specs.Lookups.{content_named, source_named}
use Rattle.audit_rules.specs.declared.source_check.cause.CheckCause.{CheckCause}
use Rattle.audit_rules.specs.SourceCheck.Checks.{check, joined_files}

-- the bytes of the inputs and of the artefacts so far, each in the recipe's order
pub record Contents : Type 0 where
  pub inputs : List (List ℕ)
  pub artefacts : List (List ℕ)

-- the bytes of an input or of an artefact, by its index from 0
abbrev pub bytes_of_content : Contents → Content → List ℕ
bytes_of_content contents (Input index) = get_or contents.inputs index []
bytes_of_content contents (Artefact index) = get_or contents.artefacts index []

-- the bytes that a name stands for; [] for a name that stands for nothing yet, which a recipe's rules exclude
abbrev pub bytes_named : Contents → Option Content → List ℕ
bytes_named contents None = []
bytes_named contents (Some found) = bytes_of_content contents found

unfoldable pub content : RecipeContents → Contents → List ℕ → List ℕ
content recipe contents name = bytes_named contents (content_named recipe.inputs recipe.stages name)

-- these files with one more file of a stage, at its path
abbrev pub with_stage_file : RecipeContents → Contents → FileMap → StageFile → FileMap
with_stage_file recipe contents held file = files.insert held file.path (content recipe contents file.from)

-- the execution context of a stage's program
unfoldable pub box_of : RecipeContents → Contents → Stage → Setting
box_of recipe contents stage = record {
  args = stage.args;
  env = stage.env;
  files = fold (with_stage_file recipe contents) files.empty stage.files;
  heap = stage.heap;
}

-- the program that a stage runs
abbrev pub program_of : RecipeContents → Contents → Stage → List ℕ
program_of recipe contents stage = content recipe contents stage.program

-- the text of a source: its language, its base, and the bytes of its files in order
pub record SourceText : Type 0 where
  pub lang : SourceLanguage
  pub base : ℕ
  pub files : List (List ℕ)

unfoldable pub text_of : RecipeContents → Contents → Source → SourceText
text_of recipe contents source = record {
  lang = source.lang;
  base = source.base;
  files = map (content recipe contents) source.files;
}

-- the language of a source, if ddc defines it
abbrev pub defined : SourceLanguage → Option Language
defined (Defined language) = Some language
defined Other = None

-- the source that a stage's check names; a stage without one is unchecked
abbrev pub check_source : RecipeContents → Stage → Option Source
check_source recipe stage = option_and_then (source_named recipe.sources) stage.check

-- the language of a stage's check; None for an unchecked stage. By a recipe's rules a check has a defined language
unfoldable pub check_language : RecipeContents → Stage → Option Language
check_language recipe stage = option_and_then (λ (source : Source). defined source.lang) (check_source recipe stage)

-- what is wrong with an artefact as the value of a text; None if nothing is or the language is not defined
abbrev pub text_check : SourceText → Option Language → List ℕ → Option CheckCause
text_check text None made = None
text_check text (Some language) made = check language text.base (joined_files text.files) made

-- what is wrong with a stage's artefact as the value of its check's source; None if nothing is, or if the stage is unchecked
abbrev pub source_check : RecipeContents → Contents → Option Source → List ℕ → Option CheckCause
source_check recipe contents None made = None
source_check recipe contents (Some source) made = text_check (text_of recipe contents source) (defined source.lang) made

unfoldable pub check_of : RecipeContents → Contents → Stage → List ℕ → Option CheckCause
check_of recipe contents stage made = source_check recipe contents (check_source recipe stage) made
