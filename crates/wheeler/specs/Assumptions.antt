-- The assumptions about an audit's programs, and when an assumption holds. docs/reference/argument.md says the same for people.
use Rattle.std.specs.Prelude.{ℕ, ◌&&◌, Bool, bytes_eq, is_none, if◌then◌else◌, Option, None, Some, IfSome, List, ◌++◌, filter_map, All}
use Rattle.std.specs.List.{list_any}
use Rattle.recipe.specs.declared.contents.RecipeContents.{RecipeContents}
use Rattle.recipe.specs.declared.parts.Input.{Input}
use Rattle.recipe.specs.declared.parts.Stage.{Stage}
use Rattle.recipe.specs.Lookups.{hex_check, source_of}
use Rattle.audit_rules.specs.Contents.{Contents, box_of, content}
use Rattle.audit_rules.specs.Stages.{output_of}
use Rattle.wheeler.specs.declared.assumption.Assumption.{Assumption}
use Rattle.wheeler.specs.declared.assumption.Assumption.TheVariants as line
use Rattle.wheeler.specs.AllContents.{all_contents, stage_named, text_named}
use Rattle.wheeler.specs.Meaning.{Compiles, Implements, Prescribes}

-- whether a stage is unchecked and runs the program of a name
abbrev pub runs_unchecked : List ℕ → Stage → Bool
runs_unchecked name stage = is_none stage.check && bytes_eq stage.program name

-- whether a name is that of the program of some unchecked stage: the conclusion depends on these programs
unfoldable pub is_trusted : RecipeContents → List ℕ → Bool
is_trusted recipe name = list_any (runs_unchecked name) recipe.stages

-- the assumption that this is a program of its source
abbrev pub implements_line : List ℕ → Option (List ℕ) → Option Assumption
implements_line name None = None
implements_line name (Some source) = Some (line.Implements name source)

-- for an unchecked stage, the assumption that what its program's source prescribes is a program of the stage's source
abbrev pub compiles_line : Option (List ℕ) → List ℕ → Option (List ℕ) → Option Assumption
compiles_line None stage becomes = None
compiles_line (Some source) stage None = None
compiles_line (Some source) stage (Some becomes) = Some (line.Compiles source stage becomes)

-- a stage that is checked in hex0, hex1 or hex2 as a program of the check's own source needs no assumption; any other with a source does
abbrev pub checked_line : List ℕ → Option (List ℕ) → Option (List ℕ) → Option Assumption
checked_line stage (Some check) (Some source) = if bytes_eq check source then None else Some (line.Implements stage source)
checked_line stage None (Some source) = Some (line.Implements stage source)
checked_line stage check None = None

abbrev pub line_by_check : RecipeContents → Stage → Option (List ℕ) → Option Assumption
line_by_check recipe stage None = compiles_line (source_of recipe stage.program) stage.name (source_of recipe stage.name)
line_by_check recipe stage (Some check) = checked_line stage.name (hex_check recipe.sources check) (source_of recipe stage.name)

-- the assumption about an input and about a stage, if it is trusted
unfoldable pub input_assumption : (List ℕ → Bool) → RecipeContents → Input → Option Assumption
input_assumption trusted recipe input = if trusted input.name then implements_line input.name (source_of recipe input.name) else None

unfoldable pub stage_assumption : (List ℕ → Bool) → RecipeContents → Stage → Option Assumption
stage_assumption trusted recipe stage = if trusted stage.name then line_by_check recipe stage stage.check else None

-- the assumptions about what is trusted: inputs first and then stages, each in the recipe's order
unfoldable pub trust_lines : (List ℕ → Bool) → RecipeContents → List Assumption
trust_lines trusted recipe = filter_map (input_assumption trusted recipe) recipe.inputs ++ filter_map (stage_assumption trusted recipe) recipe.stages

-- the assumptions of an audit
abbrev pub assumed : RecipeContents → List Assumption
assumed recipe = trust_lines (is_trusted recipe) recipe

-- an assumption holds, by what its names stand for in an audit: the program implements the source; or the former source compiles the latter
-- in the stage's execution context at its output
abbrev pub Holds : Prescribes → Compiles → RecipeContents → Contents → Assumption → Type 0
Holds prescribes compiles recipe all (line.Implements name source) = Implements prescribes (content recipe all name) (text_named recipe all source)
Holds prescribes compiles recipe all (line.Compiles source name becomes) =
    IfSome (stage_named recipe.stages name) (λ (stage : Stage).
    compiles (text_named recipe all source) (box_of recipe all stage) (output_of stage.output) (text_named recipe all becomes))

-- every assumption of an audit holds
abbrev pub LinesHold : Prescribes → Compiles → RecipeContents → List (List ℕ) → Type 0
LinesHold prescribes compiles recipe inputs = All (Holds prescribes compiles recipe (all_contents recipe inputs)) (assumed recipe)
