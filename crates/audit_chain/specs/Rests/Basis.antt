-- The dependencies of a stage's artefact.
use Rattle.std.specs.Prelude.{ℕ, ◌&&◌, ◌||◌, Bool, false, bytes_eq, is_none, if◌then◌else◌, Option, None, Some, List, filter_map}
use Rattle.std.specs.List.{list_any}
use Rattle.recipe.specs.declared.contents.RecipeContents.{RecipeContents}
use Rattle.recipe.specs.declared.parts.Input.{Input}
use Rattle.recipe.specs.declared.parts.Source.{Source}
use Rattle.recipe.specs.declared.parts.Stage.{Stage}
use Rattle.recipe.specs.Lookups.{source_named}
use Rattle.wheeler.specs.declared.assumption.Assumption.{Assumption}
use Rattle.wheeler.specs.declared.assumption.Assumption.TheVariants.{Implements, Compiles}
use Rattle.wheeler.specs.Assumptions.{trust_lines}
use Rattle.wheeler.specs.Routes.{is_on}
use Rattle.audit_chain.specs.declared.rests.basis_part.BasisPart.{BasisPart}
use Rattle.audit_chain.specs.Rests.Walk.{bytes_meet, files_meet, is_free, meets, runs_meet, walk}

-- an input that is read
abbrev pub text_name : List BasisPart → Input → Option (List ℕ)
text_name parts input = if files_meet parts input.name then Some input.name else None

-- a stage whose bytes matter and whose check leaves its layout free
abbrev pub layout_name : RecipeContents → List BasisPart → Stage → Option (List ℕ)
layout_name recipe parts stage = if bytes_meet parts stage.name && is_free recipe stage then Some stage.name else None

-- an unchecked stage among these parts
abbrev pub ran_name : List BasisPart → Stage → Option (List ℕ)
ran_name parts stage = if meets parts stage.name && is_none stage.check then Some stage.name else None

-- whether the source of a name has this file
abbrev pub has_file_by : Option Source → List ℕ → Bool
has_file_by None file = false
has_file_by (Some source) file = is_on source.files file

abbrev pub has_file : RecipeContents → List ℕ → List ℕ → Bool
has_file recipe source file = has_file_by (source_named recipe.sources source) file

-- whether an assumption names a source with this file
abbrev pub speaks_of : RecipeContents → List ℕ → Assumption → Bool
speaks_of recipe file (Implements made source) = has_file recipe source file
speaks_of recipe file (Compiles source stage becomes) = has_file recipe source file || has_file recipe becomes file

-- a stage whose artefact is a file of a source that an assumption names, a dependency or not
abbrev pub spoken_name : RecipeContents → List Assumption → Stage → Option (List ℕ)
spoken_name recipe lines stage = if list_any (speaks_of recipe stage.name) lines then Some stage.name else None

-- the inputs that are read, the stages whose free layout matters, the unchecked stages, and the assumptions about programs, each in the
-- recipe's order
unfoldable pub texts : RecipeContents → List ℕ → List (List ℕ)
texts recipe name = filter_map (text_name (walk recipe name)) recipe.inputs

unfoldable pub layouts : RecipeContents → List ℕ → List (List ℕ)
layouts recipe name = filter_map (layout_name recipe (walk recipe name)) recipe.stages

-- the stage itself, if its check leaves its layout free: the check then allows other bytes with the same items
abbrev pub own_layout_name : RecipeContents → List ℕ → Stage → Option (List ℕ)
own_layout_name recipe own stage = if bytes_eq own stage.name && is_free recipe stage then Some stage.name else None

unfoldable pub own_layout : RecipeContents → List ℕ → List (List ℕ)
own_layout recipe name = filter_map (own_layout_name recipe name) recipe.stages

unfoldable pub ran : RecipeContents → List ℕ → List (List ℕ)
ran recipe name = filter_map (ran_name (walk recipe name)) recipe.stages

unfoldable pub lines : RecipeContents → List ℕ → List Assumption
lines recipe name = trust_lines (runs_meet (walk recipe name)) recipe

-- the stages whose artefacts are files of sources that the assumptions name: a reader of such a source has to ask what each depends on
unfoldable pub spoken : RecipeContents → List ℕ → List (List ℕ)
spoken recipe name = filter_map (spoken_name recipe (lines recipe name)) recipe.stages
