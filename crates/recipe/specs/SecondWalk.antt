-- The second walk: what the names of a recipe refer to (docs/reference/recipe.md, "The second walk").
use Rattle.std.specs.Prelude.{ℕ, ◌+◌, ◌-◌, Bool, true, false, List, take, Option, Some, None, is_some, Result, Ok, Err}
use Rattle.std.specs.List.{list_all}
use Rattle.ddc_base.specs.Results.{◌>>◌, error_unless}
use Rattle.recipe.specs.Text.Reading.{each_passes}
use Rattle.recipe.specs.declared.text.keys.Key.{Key}
use Rattle.recipe.specs.declared.text.keys.Key.TheVariants as key
use Rattle.recipe.specs.declared.text.keys.Place.{Place}
use Rattle.recipe.specs.declared.text.refusal.RecipeRefusal.{RecipeRefusal}
use Rattle.recipe.specs.declared.text.refusal.RecipeRefusal.TheVariants.{Missing, BadName, NotMadeYet}
use Rattle.recipe.specs.declared.parts.Content.{Content}
use Rattle.recipe.specs.declared.parts.Content.TheVariants as content
use Rattle.recipe.specs.declared.parts.Input.{Input}
use Rattle.recipe.specs.declared.parts.Source.{Source}
use Rattle.recipe.specs.declared.parts.SourceLanguage.{SourceLanguage}
use Rattle.recipe.specs.declared.parts.SourceLanguage.TheVariants.{Defined, Other}
use Rattle.recipe.specs.declared.parts.Stage.{Stage}
use Rattle.recipe.specs.Lookups.{input_at, stage_at, source_named, content_named, content_source}
use Rattle.recipe.specs.declared.contents.RecipeContents.{RecipeContents}
use Rattle.recipe.specs.Tables.{input_place, source_place, stage_place, compare_place, stages_key}

-- whether a name stands for one of these inputs or for the artefact of one of these stages
abbrev pub is_content : List Input → List Stage → List ℕ → Bool
is_content inputs stages name = is_some (content_named inputs stages name)

-- a source with this name exists, if the key has a name
abbrev pub refers_to_source : List Source → Place → Key → Option (List ℕ) → Result (Unit {0}) RecipeRefusal
refers_to_source sources place key None = Ok tt
refers_to_source sources place key (Some name) = error_unless (NotMadeYet place key) (is_some (source_named sources name))

-- ---- each table, with its number from 1

abbrev pub input_refers : RecipeContents → ℕ → Input → Result (Unit {0}) RecipeRefusal
input_refers parsed number input = refers_to_source parsed.sources (input_place number) key.Implements input.implements

abbrev pub source_refers : RecipeContents → ℕ → Source → Result (Unit {0}) RecipeRefusal
source_refers parsed number source =
    error_unless (NotMadeYet (source_place number) key.Files) (list_all (is_content parsed.inputs parsed.stages) source.files)

-- whether ddc has a definition of the language
abbrev pub is_defined : SourceLanguage → Bool
is_defined (Defined language) = true
is_defined Other = false

-- the source of a check: its files exist before the stage, and its language has a definition
abbrev pub checks_source : RecipeContents → List Stage → Place → Option Source → Result (Unit {0}) RecipeRefusal
checks_source parsed earlier place None = Err (NotMadeYet place key.Check)
checks_source parsed earlier place (Some source) = do
  error_unless (NotMadeYet place key.Check) (list_all (is_content parsed.inputs earlier) source.files)
  error_unless (BadName place key.Check) (is_defined source.lang)

-- the check of a stage, if it names one
unfoldable pub check_refers : RecipeContents → List Stage → Place → Option (List ℕ) → Result (Unit {0}) RecipeRefusal
check_refers parsed earlier place None = Ok tt
check_refers parsed earlier place (Some name) = checks_source parsed earlier place (source_named parsed.sources name)

-- a stage that follows these earlier ones
unfoldable pub stage_refers_after : RecipeContents → List Stage → Place → Stage → Result (Unit {0}) RecipeRefusal
stage_refers_after parsed earlier place stage = do
  error_unless (NotMadeYet place key.Program) (is_content parsed.inputs earlier stage.program)
  error_unless (NotMadeYet place key.Files) (list_all (λ file. is_content parsed.inputs earlier file.from) stage.files)
  check_refers parsed earlier place stage.check
  refers_to_source parsed.sources place key.Becomes stage.becomes

abbrev pub stage_refers : RecipeContents → ℕ → Stage → Result (Unit {0}) RecipeRefusal
stage_refers parsed number stage = stage_refers_after parsed (take (number - 1) parsed.stages) (stage_place number) stage

-- whether a stage has the name
abbrev pub is_stage : List Stage → List ℕ → Bool
is_stage stages name = is_some (stage_at stages name)

unfoldable pub compare_refers : RecipeContents → Result (Unit {0}) RecipeRefusal
compare_refers parsed = do
  error_unless (NotMadeYet compare_place (stages_key parsed.format)) (list_all (is_stage parsed.stages) parsed.compare.stages)
  error_unless (NotMadeYet compare_place key.Binary) (is_some (input_at parsed.inputs parsed.compare.binary))

-- ---- the programs of the unchecked stages

-- a program without a source is refused at the key where its source would be (a name without a content was refused above)
abbrev pub has_source : RecipeContents → Option Content → Result (Unit {0}) RecipeRefusal
has_source parsed (Some (content.Input index)) =
    error_unless (Missing (input_place (index + 1)) key.Implements) (is_some (content_source parsed (content.Input index)))
has_source parsed (Some (content.Stage index)) =
    error_unless (Missing (stage_place (index + 1)) key.Becomes) (is_some (content_source parsed (content.Stage index)))
has_source parsed None = Ok tt

-- the program of an unchecked stage
abbrev pub is_argued : RecipeContents → Option (List ℕ) → List ℕ → Result (Unit {0}) RecipeRefusal
is_argued parsed (Some check) program = Ok tt
is_argued parsed None program = has_source parsed (content_named parsed.inputs parsed.stages program)

abbrev pub program_has_source : RecipeContents → ℕ → Stage → Result (Unit {0}) RecipeRefusal
program_has_source parsed number stage = is_argued parsed stage.check stage.program

-- ---- the walk

unfoldable pub second_walk : RecipeContents → Result (Unit {0}) RecipeRefusal
second_walk parsed = do
  each_passes (input_refers parsed) 1 parsed.inputs
  each_passes (source_refers parsed) 1 parsed.sources
  each_passes (stage_refers parsed) 1 parsed.stages
  compare_refers parsed
  each_passes (program_has_source parsed) 1 parsed.stages
