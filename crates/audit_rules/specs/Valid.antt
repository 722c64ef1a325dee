-- The valid positions of an audit, reached by its own steps or not: the positions that a save may hold. docs/reference/audit.md says the
-- same for people.
use Rattle.std.specs.Prelude.{◌≡◌, ◌<◌, ◌≤◌, ◌+◌, ◌^◌, ℕ, IsTrue, List, [], ◌∷◌, length, All}
use Rattle.std.specs.List.{Contains}
use Rattle.ddc_base.specs.Limits.{most_artefacts, most_names}
use Rattle.mem_files.specs.Names.{is_stripped_name}
use Rattle.mem_files.specs.Outputs.{IsContent}
use Rattle.mem_files.specs.Sound.{AreBytes}
use Rattle.guest_run.specs.Valid.{IsValid}
use Rattle.recipe.specs.declared.contents.RecipeContents.{RecipeContents}
use Rattle.recipe.specs.declared.parts.Output.{Output}
use Rattle.recipe.specs.declared.parts.Output.TheVariants.{Stream, File}
use Rattle.recipe.specs.declared.parts.Stage.{Stage}
use Rattle.report.specs.declared.types.LeftLine.{LeftLine}
use Rattle.report.specs.declared.types.Mark.{Mark}
use Rattle.report.specs.Reports.{IsDigest, IsReport, ascend}
use Rattle.audit_rules.specs.declared.answer.AuditAnswer.{AuditAnswer}
use Rattle.audit_rules.specs.declared.answer.AuditAnswer.TheVariants.{Completes, Fails}
use Rattle.audit_rules.specs.declared.answer.Finished.{Finished}
use Rattle.report.specs.Marks.{mark_of}
use Rattle.audit_rules.specs.Stages.{artefact_bytes}
use Rattle.audit_rules.specs.Positions.{Position, Phase, On, Over, todo}

-- the inputs of a recipe: as many as it names, each at most 268,435,456 bytes
pub record IsInputs (recipe : RecipeContents) (inputs : List (List ℕ)) : Type 0 where
  pub count : length inputs ≡ length recipe.inputs
  pub each : All IsContent inputs

-- the mark of a stream or a file: a length below 2^32 bytes and a digest
pub record IsSmallMark (mark : Mark) : Type 0 where
  pub length : mark.length < 2 ^ 32
  pub digest : IsDigest mark.digest

-- a file that is left, under a valid file name of a guest
pub record IsLeftLine (file : LeftLine) : Type 0 where
  pub named : IsTrue (is_stripped_name file.name)
  pub name_bytes : AreBytes file.name
  pub mark : IsSmallMark file.mark

-- the artefact has the mark of the stage's output: of stream 1, or of the file that is left at the path
abbrev pub HasMark : Output → Finished → Type 0
HasMark Stream f = f.stream1 ≡ mark_of f.made
HasMark (File path) f = Contains f.left (record { name = path; mark = mark_of f.made })

-- a finished stage: its steps are from 1 to the stage's limit, both included. At most 4,096 files are left, ascending by name. The artefact
-- has the mark of the stage's output
pub record IsFinished (stage : Stage) (f : Finished) : Type 0 where
  pub some_steps : 1 ≤ f.steps
  pub few_steps : f.steps ≤ stage.steps
  pub stream1 : IsSmallMark f.stream1
  pub stream2 : IsSmallMark f.stream2
  pub each_left : All IsLeftLine f.left
  pub few_left : length f.left ≤ most_names
  pub ascending : IsTrue (ascend f.left)
  pub made : IsContent f.made
  pub output : HasMark stage.output f

-- the finished stages are the recipe's first ones, in order
abbrev pub AreFinished : List Stage → List Finished → Type 0
AreFinished stages [] = Unit {0}
AreFinished [] (f ∷ done) = ⊥
AreFinished (stage ∷ stages) (f ∷ done) = IsFinished stage f × AreFinished stages done

-- the finished stages, whose artefacts have at most 1,073,741,824 bytes together
pub record AreDone (recipe : RecipeContents) (done : List Finished) : Type 0 where
  pub each : AreFinished recipe.stages done
  pub small : artefact_bytes done ≤ most_artefacts

-- a position in a stage: the guest is in a valid state, with the stage's heap, below the stage's step limit
pub record IsAt (recipe : RecipeContents) (p : Position) (stage : Stage) (stages : List Stage) : Type 0 where
  pub left : todo recipe p.done ≡ stage ∷ stages
  pub within : p.at.steps < stage.steps
  pub heap : p.at.heap.limit ≡ stage.heap
  pub valid : IsValid p.at
  pub done : AreDone recipe p.done

-- a valid position: it is in a stage of the recipe
abbrev pub IsPosition : RecipeContents → Position → Type 0
IsPosition recipe p = (stage : Stage) × (stages : List Stage) × IsAt recipe p stage stages

-- an answer whose report, if it has one, is well formed
abbrev pub IsAuditAnswer : AuditAnswer → Type 0
IsAuditAnswer (Completes report) = IsReport report
IsAuditAnswer (Fails number fault) = Unit {0}

-- where an audit stands: at a position, or it is over with an answer
abbrev pub IsPhase : RecipeContents → Phase → Type 0
IsPhase recipe (On p) = IsPosition recipe p
IsPhase recipe (Over answer) = IsAuditAnswer answer

-- the step limits of these stages, added
abbrev pub limits : List Stage → ℕ
limits [] = 0
limits (stage ∷ stages) = stage.steps + limits stages
