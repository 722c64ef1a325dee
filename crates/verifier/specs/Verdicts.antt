-- The verdict by the first fault of a report. docs/reference/verify.md says the same for people.
use Rattle.std.specs.Prelude.{◌≡◌, ℕ, ◌-◌, ◌≤◌, true, Option, None, Some, Ok, IsOk, List, [], ◌∷◌, take, slice_get, if◌then◌else◌}
use Rattle.elf_load.specs.Image.{image_of}
use Rattle.mem_files.specs.World.{World}
use Rattle.guest_run.specs.Start.{start_of}
use Rattle.recipe.specs.declared.contents.RecipeContents.{RecipeContents}
use Rattle.recipe.specs.declared.parts.Stage.{Stage}
use Rattle.report.specs.declared.types.CompareLine.{CompareLine}
use Rattle.report.specs.declared.types.Report.{Report}
use Rattle.report.specs.declared.types.StageLine.{StageLine}
use Rattle.audit_rules.specs.Bench.{all_equal}
use Rattle.audit_rules.specs.Contents.{Contents, box_of, program_of}
use Rattle.verifier.specs.declared.part.Part.{Part}
use Rattle.verifier.specs.declared.part.Part.TheVariants.{Run, Assembled}
use Rattle.verifier.specs.declared.part.Verdict.{Verdict}
use Rattle.verifier.specs.declared.part.Verdict.TheVariants.{Yes, TrueButDiffers, Refuted, OutOfMemory}
use Rattle.verifier.specs.Faults.{inputs_fault, is_header, left_at, recorded, replayed, with_artefact}

-- the verdict on a report without a fault: `Yes` if each of its comparisons is equal
abbrev pub true_verdict : List CompareLine → Verdict
true_verdict lines = if all_equal lines then Yes else TrueButDiffers

abbrev pub verdict_of : Option (Part × ℕ) → List CompareLine → Verdict
verdict_of None lines = true_verdict lines
verdict_of (Some (part, place)) lines = Refuted part place

-- the result for this first fault and these compare lines: the verdict, or out of memory
abbrev pub Judges : Option (Part × ℕ) → List CompareLine → Verdict → Type 0
Judges fault lines (OutOfMemory stage part) = Unit {0}
Judges fault lines answer = answer ≡ verdict_of fault lines

-- a fact about the stage and the part at which memory ran out
abbrev pub OnWant : Verdict → (ℕ → Part → Type 0) → Type 0
OnWant (OutOfMemory stage part) fact = fact stage part
OnWant answer fact = Unit {0}

-- the lines of these stages are right, one after the other after these contents; `all` are these with the new artefacts
abbrev pub AreReplayed : RecipeContents → Contents → List Stage → List StageLine → Contents → Type 0
AreReplayed recipe so_far [] [] all = all ≡ so_far
AreReplayed recipe so_far (stage ∷ stages) (line ∷ lines) all =
    (made : List ℕ) × (replayed recipe so_far stage line ≡ Ok made) × AreReplayed recipe (with_artefact so_far made) stages lines all
AreReplayed recipe so_far _ _ all = ⊥

-- what is judged of a stage's run before memory is allocated: the recorded step is from 1 to the limit, and the program can be loaded
pub record CanRun (recipe : RecipeContents) (so_far : Contents) (stage : Stage) (line : StageLine) : Type 0 where
  pub some : 1 ≤ line.steps
  pub few : line.steps ≤ stage.steps
  pub loads : IsOk (image_of (program_of recipe so_far stage))

-- what is judged before a stage's check: the run ended as recorded, and what it left is what the line says
pub record CanCheck (recipe : RecipeContents) (so_far : Contents) (stage : Stage) (line : StageLine) : Type 0 where
  pub world : World
  pub ran : left_at (start_of (program_of recipe so_far stage) (box_of recipe so_far stage)) stage.steps line.steps ≡ Some world
  pub made : List ℕ
  pub left : recorded so_far stage line world ≡ Some made

-- a stage allocates memory for its run, for its check and then for its artefact, and for no other part
abbrev pub CanWantAt : RecipeContents → Contents → Stage → StageLine → Part → Type 0
CanWantAt recipe so_far stage line Run = CanRun recipe so_far stage line
CanWantAt recipe so_far stage line Assembled = CanCheck recipe so_far stage line
CanWantAt recipe so_far stage line part = ⊥

-- a replay is at this part of the stage of this number, from 1: the lines of all stages before it are right
pub record IsAtPart (recipe : RecipeContents) (inputs : List (List ℕ)) (lines : List StageLine) (number : ℕ) (part : Part) : Type 0 where
  pub some : 1 ≤ number
  pub so_far : Contents
  pub before : AreReplayed recipe (record { inputs = inputs; artefacts = [] }) (take (number - 1) recipe.stages) (take (number - 1) lines) so_far
  pub stage : Stage
  pub stage_is : slice_get recipe.stages (number - 1) ≡ Some stage
  pub line : StageLine
  pub line_is : slice_get lines (number - 1) ≡ Some line
  pub here : CanWantAt recipe so_far stage line part

-- where memory can run out: the header, the inputs and all stages before this one are right, and so is what is judged of this stage before
pub record IsReplaying (recipe : RecipeContents) (inputs : List (List ℕ)) (report : Report) (number : ℕ) (part : Part) : Type 0 where
  pub header : is_header recipe report ≡ true
  pub inputs_right : inputs_fault 1 inputs report.inputs ≡ None
  pub denotes : IsAtPart recipe inputs report.stages number part
