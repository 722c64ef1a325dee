-- What a replay holds, as the definitions say it. No promise depends on its being read.
use Rattle.std.specs.Prelude.{ℕ, ◌≡◌, ◌+◌, ◌≤◌, false, bytes_eq, IsTrue, Some, Result, Ok, Err, List, length, map, All}
use Rattle.std.specs.List.{IsDistinct}
use Rattle.std.specs.FinMap as finite
use Rattle.ddc_base.specs.Results.{◌>>=◌, or_error}
use Rattle.mem_files.specs.Names.{is_stripped_name}
use Rattle.mem_files.specs.Outputs.{IsContent}
use Rattle.guest_run.specs.Setting.{FileMap}
use Rattle.recipe.specs.Kept.{IsRecipe}
use Rattle.recipe.specs.declared.parts.Output.{Output}
use Rattle.recipe.specs.declared.parts.Output.TheVariants.{Stream, File}
use Rattle.recipe.specs.declared.parts.StageFile.{StageFile}
use Rattle.mem_files.specs.World.{World}
use Rattle.recipe.specs.declared.contents.RecipeContents.{RecipeContents}
use Rattle.recipe.specs.declared.parts.Stage.{Stage}
use Rattle.report.specs.declared.types.StageLine.{StageLine}
use Rattle.verifier.specs.Faults.{checked_artefact, recorded}
use Rattle.verifier.specs.declared.part.Part.TheVariants as part
use Rattle.audit_rules.specs.Contents.{Contents, check_of}
use Rattle.verifier.specs.declared.held.Held.{Held}
use Rattle.verifier.specs.declared.part.Part.{Part}
use Rattle.verifier.specs.declared.stop.JudgingStop.{JudgingStop}
use Rattle.verifier.specs.declared.stop.JudgingStop.TheVariants.{Refuted, OutOfMemory}

-- the contents so far
abbrev pub so_far : Held → Contents
so_far held = record { inputs = held.inputs.now; artefacts = held.artefacts.now }

-- the recipe is well formed, and every content is within the limit
pub record IsHeld (held : Held) : Type 0 where
  pub recipe : IsRecipe held.recipe.now
  pub inputs : All IsContent held.inputs.now
  pub artefacts : All IsContent held.artefacts.now

-- these files can be added one after the other
pub record CanPlace (held : FileMap) (files : List StageFile) : Type 0 where
  pub named : All (λ file. IsTrue (is_stripped_name file.path)) files
  pub absent : All (λ file. finite.contains_key held file.path ≡ false) files
  pub distinct : IsDistinct bytes_eq (map (λ file. file.path) files)
  pub few : finite.len held + length files ≤ 256

-- the result of a line, once the run of its stage has left these files
abbrev pub judged_left : RecipeContents → Contents → Stage → StageLine → World → Result (List ℕ) Part
judged_left recipe so_far stage line world = do
  made ← or_error part.Files (recorded so_far stage line world)
  checked_artefact made (check_of recipe so_far stage made)

-- an output in a file has a name as files hold it
abbrev pub IsOutputName : Output → Type 0
IsOutputName Stream = Unit {0}
IsOutputName (File path) = IsTrue (is_stripped_name path)

-- a step of a replay returns the result that is meant, or runs out of memory
abbrev pub Judged : {A B : Type 0} → (B → A) → Result A Part → Result B JudgingStop → Type 0
Judged view meant (Ok found) = meant ≡ Ok (view found)
Judged view meant (Err (Refuted part)) = meant ≡ Err part
Judged view meant (Err (OutOfMemory part)) = Unit {0}

-- a fact about the part in which memory ran out
abbrev pub OnStopWant : {A : Type 0} → Result A JudgingStop → (Part → Type 0) → Type 0
OnStopWant (Err (OutOfMemory part)) fact = fact part
OnStopWant answer fact = Unit {0}

-- these files are as a stage's line says, and include its artefact
pub record IsRecorded (so_far : Contents) (stage : Stage) (line : StageLine) (world : World) : Type 0 where
  pub made : List ℕ
  pub is : recorded so_far stage line world ≡ Some made
