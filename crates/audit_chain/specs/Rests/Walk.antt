-- The dependencies of a stage: everything that its artefact is made from, stage by stage.
use Rattle.std.specs.Prelude.{◌≡◌, ℕ, zero, suc, Bool, true, false, bytes_eq, is_none, if◌then◌else◌, length, Option, None, Some, slice_get, List, [], ◌∷◌, ◌++◌, map, All}
use Rattle.std.specs.List.{list_any}
use Rattle.ddc_base.specs.declared.languages.Language.TheVariants.{Hex2}
use Rattle.recipe.specs.declared.contents.RecipeContents.{RecipeContents}
use Rattle.recipe.specs.declared.parts.Source.{Source}
use Rattle.recipe.specs.declared.parts.SourceLanguage.{SourceLanguage}
use Rattle.recipe.specs.declared.parts.SourceLanguage.TheVariants.{Defined}
use Rattle.recipe.specs.declared.parts.Stage.{Stage}
use Rattle.recipe.specs.declared.parts.StageFile.{StageFile}
use Rattle.recipe.specs.Lookups.{hex_check, source_named}
use Rattle.audit_chain.specs.declared.rests.basis_part.BasisPart.{BasisPart}
use Rattle.audit_chain.specs.declared.rests.basis_part.BasisPart.TheVariants.{Reads, Links, Runs}

-- the files of a check's source; of a single file in hex2 only the items matter, of every other file the bytes
abbrev pub source_parts : SourceLanguage → List (List ℕ) → List BasisPart
source_parts (Defined Hex2) (file ∷ []) = Links file ∷ []
source_parts lang files = map Reads files

abbrev pub check_parts : Option Source → List BasisPart
check_parts None = []
check_parts (Some source) = source_parts source.lang source.files

-- the part of a file of an unchecked stage's program: its content, which is read
abbrev pub file_part : StageFile → BasisPart
file_part file = Reads file.from

-- a checked stage is made from the files of its check's source, whatever ran; an unchecked one from its program and the program's files
abbrev pub parts_by : RecipeContents → Stage → Option (List ℕ) → List BasisPart
parts_by recipe stage None = Runs stage.program ∷ map file_part stage.files
parts_by recipe stage (Some check) = check_parts (source_named recipe.sources check)

unfoldable pub parts_of : RecipeContents → Stage → List BasisPart
parts_of recipe stage = parts_by recipe stage stage.check

-- the name of a part
abbrev pub part_name : BasisPart → List ℕ
part_name (Reads name) = name
part_name (Links name) = name
part_name (Runs name) = name

-- whether a part has this name; and is read, by its bytes or by its items; and its bytes matter; and is run
abbrev pub is_part_named : List ℕ → BasisPart → Bool
is_part_named name (Reads other) = bytes_eq other name
is_part_named name (Links other) = bytes_eq other name
is_part_named name (Runs other) = bytes_eq other name

abbrev pub is_file : List ℕ → BasisPart → Bool
is_file name (Reads other) = bytes_eq other name
is_file name (Links other) = bytes_eq other name
is_file name (Runs other) = false

abbrev pub is_bytes : List ℕ → BasisPart → Bool
is_bytes name (Reads other) = bytes_eq other name
is_bytes name (Links other) = false
is_bytes name (Runs other) = bytes_eq other name

abbrev pub is_program : List ℕ → BasisPart → Bool
is_program name (Reads other) = false
is_program name (Links other) = false
is_program name (Runs other) = bytes_eq other name

abbrev pub meets : List BasisPart → List ℕ → Bool
meets parts name = list_any (is_part_named name) parts

abbrev pub files_meet : List BasisPart → List ℕ → Bool
files_meet parts name = list_any (is_file name) parts

abbrev pub bytes_meet : List BasisPart → List ℕ → Bool
bytes_meet parts name = list_any (is_bytes name) parts

abbrev pub runs_meet : List BasisPart → List ℕ → Bool
runs_meet parts name = list_any (is_program name) parts

-- a stage among the parts adds its own parts
abbrev pub with_stage : RecipeContents → List BasisPart → Option Stage → List BasisPart
with_stage recipe parts None = parts
with_stage recipe parts (Some stage) = if meets parts stage.name then parts ++ parts_of recipe stage else parts

-- the parts after adding those of the first stages, as many as the number, from the last of them to the first
unfoldable pub walk_from : RecipeContents → ℕ → List BasisPart → List BasisPart
walk_from recipe zero parts = parts
walk_from recipe (suc n) parts = walk_from recipe n (with_stage recipe parts (slice_get recipe.stages n))

-- all dependencies of the stage of a name
unfoldable pub walk : RecipeContents → List ℕ → List BasisPart
walk recipe name = walk_from recipe (length recipe.stages) (Links name ∷ [])

-- a check in M1, which leaves the layout of its artefact free
abbrev pub is_free_by : RecipeContents → Option (List ℕ) → Bool
is_free_by recipe None = false
is_free_by recipe (Some check) = is_none (hex_check recipe.sources check)

unfoldable pub is_free : RecipeContents → Stage → Bool
is_free recipe stage = is_free_by recipe stage.check

-- a set of names that, with each stage, has the parts of that stage
abbrev pub HasParts : RecipeContents → (List ℕ → Bool) → Type 0
HasParts recipe chosen =
    (k : ℕ) (stage : Stage) → slice_get recipe.stages k ≡ Some stage → chosen stage.name ≡ true
    → All (λ part. chosen (part_name part) ≡ true) (parts_of recipe stage)
