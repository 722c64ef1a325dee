-- One stage: the start of its program, its run, and the result of its end. docs/reference/audit.md says the same for people. Digests are
-- SHA-256 (FIPS 180-4).
use Rattle.std.specs.Prelude.{ℕ, ◌+◌, ◌==◌, nat_le, Option, None, Some, Result, Ok, Err, List, length, map, sum_by}
use Rattle.ddc_base.specs.Results.{◌>>=◌, ◌>>◌, or_error, error_unless}
use Rattle.ddc_base.specs.Limits.{most_artefacts}
use Rattle.mem_files.specs.World.{World}
use Rattle.mem_files.specs.Outputs.{FirstStream, AtPath, left, out}
use Rattle.mem_files.specs.Outputs as outputs
use Rattle.guest_run.specs.State.{GuestState}
use Rattle.guest_run.specs.Start.{Refusal, Elf, ArgsTooLong, BoxTooLarge, start_of}
use Rattle.guest_run.specs.Run.{End, Exited, Trapped, UnknownCall, first_end}
use Rattle.recipe.specs.declared.contents.RecipeContents.{RecipeContents}
use Rattle.recipe.specs.declared.parts.Output.{Output}
use Rattle.recipe.specs.declared.parts.Output.TheVariants.{Stream, File}
use Rattle.recipe.specs.declared.parts.Stage.{Stage}
use Rattle.report.specs.declared.types.LeftLine.{LeftLine}
use Rattle.report.specs.Marks.{mark_of}
use Rattle.audit_rules.specs.declared.source_check.cause.CheckCause.{CheckCause}
use Rattle.audit_rules.specs.declared.answer.StageFault.{StageFault}
use Rattle.audit_rules.specs.declared.answer.StageFault.TheVariants.{Runs, Checks}
use Rattle.audit_rules.specs.declared.answer.Finished.{Finished}
use Rattle.audit_rules.specs.declared.cause.RunCause.TheVariants as run
use Rattle.audit_rules.specs.declared.cause.StartCause.{StartCause}
use Rattle.audit_rules.specs.declared.cause.StartCause.TheVariants as start
use Rattle.audit_rules.specs.Contents.{Contents, box_of, check_of, program_of}

-- the bytes of the inputs, and of the artefacts of the stages that are done
abbrev pub contents : List (List ℕ) → List Finished → Contents
contents inputs done = record { inputs = inputs; artefacts = map (λ (f : Finished). f.made) done }

-- the number of bytes of all artefacts so far
abbrev pub artefact_bytes : List Finished → ℕ
artefact_bytes done = sum_by (λ (f : Finished). length f.made) done

-- where a stage's artefact is: at its output
abbrev pub output_of : Output → outputs.OutputLocation
output_of Stream = FirstStream
output_of (File path) = AtPath path

-- a file that is left, with its mark
abbrev pub marked_left : List ℕ × List ℕ → LeftLine
marked_left file = record { name = file.0; mark = mark_of file.1 }

-- the record of a stage whose program exited at a step, left these files and made this artefact
unfoldable pub finished : ℕ → World → List ℕ → Finished
finished steps world made = record {
  steps = steps;
  stream1 = mark_of world.stream1;
  stream2 = mark_of world.stream2;
  left = map marked_left (left world);
  made = made;
}

-- the cause of a start that fails
abbrev pub start_cause : Refusal → StartCause
start_cause (Elf refusal) = start.Elf refusal
start_cause ArgsTooLong = start.ArgsTooLong
start_cause BoxTooLarge = start.BoxTooLarge

-- the state in which a stage's program starts
abbrev pub start_stage : RecipeContents → Contents → Stage → Result GuestState Refusal
start_stage recipe so_far stage = start_of (program_of recipe so_far stage) (box_of recipe so_far stage)

-- the started guest, or the fault that it does not start
abbrev pub start_or_fault : Result GuestState Refusal → Result GuestState StageFault
start_or_fault (Ok guest) = Ok guest
start_or_fault (Err why) = Err (Runs (run.Start (start_cause why)) 0)

-- success if the check found nothing wrong, or its fault
abbrev pub check_passed : Option CheckCause → Result (Unit {0}) StageFault
check_passed None = Ok tt
check_passed (Some why) = Err (Checks why)

-- the stage is done if the status is 0, its output exists, all artefacts have at most 1,073,741,824 bytes together, and its check passes
abbrev pub exited_with : RecipeContents → List (List ℕ) → List Finished → Stage → ℕ → ℕ → World → Result Finished StageFault
exited_with recipe inputs done stage status steps world = do
  error_unless (Runs (run.Status status) steps) (status == 0)
  made ← or_error (Runs run.NoOutput steps) (out world (output_of stage.output))
  error_unless (Runs run.Crowded steps) (nat_le (artefact_bytes done + length made) most_artefacts)
  check_passed (check_of recipe (contents inputs done) stage made)
  Ok (finished steps world made)

-- the result of the end of a stage's run; the ending step is the one after the state, and is counted
abbrev pub ending : RecipeContents → List (List ℕ) → List Finished → Stage → End → GuestState → Result Finished StageFault
ending recipe inputs done stage (Exited status) guest = exited_with recipe inputs done stage status (guest.steps + 1) guest.world
ending recipe inputs done stage (Trapped cause) guest = Err (Runs (run.Trap cause) (guest.steps + 1))
ending recipe inputs done stage (UnknownCall number) guest = Err (Runs (run.Call number) (guest.steps + 1))

-- the result of a stage's run, from its first exit, trap or unknown call; without one the stage's limit is exhausted
abbrev pub by_end : RecipeContents → List (List ℕ) → List Finished → Stage → Option (End × GuestState) → Result Finished StageFault
by_end recipe inputs done stage first = do
  (end, guest) ← or_error (Runs run.Spent stage.steps) first
  ending recipe inputs done stage end guest

abbrev pub by_start : RecipeContents → List (List ℕ) → List Finished → Stage → Result GuestState Refusal → Result Finished StageFault
by_start recipe inputs done stage start = do
  guest ← start_or_fault start
  by_end recipe inputs done stage (first_end guest stage.steps)

-- the result of a stage, after those that are done
abbrev pub stage_result : RecipeContents → List (List ℕ) → List Finished → Stage → Result Finished StageFault
stage_result recipe inputs done stage = by_start recipe inputs done stage (start_stage recipe (contents inputs done) stage)
