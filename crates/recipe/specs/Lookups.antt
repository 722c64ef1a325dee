-- What the names of a recipe stand for (docs/reference/recipe.md, "Names").
use Rattle.std.specs.Prelude.{ℕ, ◌<◌, length, Bool, true, false, List, bytes_eq, slice_get, Option, Some, None, option_and_then, option_map, if◌then◌else◌}
use Rattle.std.specs.List.{find, position}
use Rattle.std.specs.Option.{option_or}
use Rattle.ddc_base.specs.declared.languages.Language.TheVariants.{Hex0, Hex1, Hex2, M1}
use Rattle.recipe.specs.declared.parts.Content.{Content}
use Rattle.recipe.specs.declared.parts.Content.TheVariants as content
use Rattle.recipe.specs.declared.parts.Input.{Input}
use Rattle.recipe.specs.declared.parts.Source.{Source}
use Rattle.recipe.specs.declared.parts.SourceLanguage.{SourceLanguage}
use Rattle.recipe.specs.declared.parts.SourceLanguage.TheVariants.{Defined, Other}
use Rattle.recipe.specs.declared.parts.Stage.{Stage}
use Rattle.recipe.specs.declared.contents.RecipeContents.{RecipeContents}

-- the index of the input, and of the stage, with a name
abbrev pub input_at : List Input → List ℕ → Option ℕ
input_at inputs name = position (λ input. bytes_eq input.name name) inputs

abbrev pub stage_at : List Stage → List ℕ → Option ℕ
stage_at stages name = position (λ stage. bytes_eq stage.name name) stages

-- the source with a name
abbrev pub source_named : List Source → List ℕ → Option Source
source_named sources name = find (λ source. bytes_eq source.name name) sources

-- the input with a name, otherwise the stage whose artefact has this name
unfoldable pub content_named : List Input → List Stage → List ℕ → Option Content
content_named inputs stages name = option_or (option_map content.Input (input_at inputs name)) (option_map content.Stage (stage_at stages name))

-- whether a checked artefact in this language is the value of its source: in hex0, hex1 and hex2
abbrev pub is_hex : SourceLanguage → Bool
is_hex (Defined Hex0) = true
is_hex (Defined Hex1) = true
is_hex (Defined Hex2) = true
is_hex (Defined M1) = false
is_hex Other = false

-- the name of a check's source, if its language is hex0, hex1 or hex2
abbrev pub hex_check : List Source → List ℕ → Option (List ℕ)
hex_check sources name = option_and_then (λ source. if is_hex source.lang then Some name else None) (source_named sources name)

-- the name of the source of a stage's artefact: the one that it becomes, otherwise that of its check in hex0, hex1 or hex2
unfoldable pub stage_source : List Source → Stage → Option (List ℕ)
stage_source sources stage = option_or stage.becomes (option_and_then (hex_check sources) stage.check)

-- the name of a program's source
unfoldable pub content_source : RecipeContents → Content → Option (List ℕ)
content_source parsed (content.Input index) = option_and_then (λ input. input.implements) (slice_get parsed.inputs index)
content_source parsed (content.Stage index) = option_and_then (stage_source parsed.sources) (slice_get parsed.stages index)

-- the name of the source of the program with this name
abbrev pub source_of : RecipeContents → List ℕ → Option (List ℕ)
source_of parsed name = option_and_then (content_source parsed) (content_named parsed.inputs parsed.stages name)

-- the index is one of an input or of a stage
abbrev pub IsIndex : List Input → List Stage → Content → Type 0
IsIndex inputs stages (content.Input index) = index < length inputs
IsIndex inputs stages (content.Stage index) = index < length stages
