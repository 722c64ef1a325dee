-- The commands of a script in order, in one file system. docs/reference/kaem.md says the same for people.
use Rattle.std.specs.Prelude.{◌≡◌, ℕ, ◌+◌, ◌==◌, if◌then◌else◌, Option, None, Some, Result, Ok, Err, List, [], ◌∷◌, ◌++◌, length}
use Rattle.std.specs.FinMap as files
use Rattle.ddc_base.specs.Limits.{usual_heap}
use Rattle.mem_files.specs.World.{World}
use Rattle.mem_files.specs.Calls.{content_at}
use Rattle.mem_files.specs.Names.{stripped}
use Rattle.mem_files.specs.Outputs.{left}
use Rattle.guest_run.specs.Run.{End, Exited, Trapped, UnknownCall, first_end}
use Rattle.guest_run.specs.Setting.{Setting}
use Rattle.guest_run.specs.Start.{ArgsTooLong, BoxTooLarge, Elf, Refusal, start_of}
use Rattle.guest_run.specs.State.{GuestState}
use Rattle.kaem_script.specs.declared.cause.CommandCause.{CommandCause}
use Rattle.kaem_script.specs.declared.cause.CommandCause.TheVariants as cause
use Rattle.kaem_script.specs.declared.fold.ScriptStop.{ScriptStop}
use Rattle.kaem_script.specs.declared.fold.ScriptStop.TheVariants.{Failed, OutOfMemory}

-- ---- one command

-- the execution context of a command's program: all words as they are written, no environment, and all files that exist
unfoldable pub command_box : World → List (List ℕ) → Setting
command_box world words = record { args = words; env = []; files = files.from_entries (left world); heap = usual_heap }

-- the first word names the program
abbrev pub program_name : List (List ℕ) → List ℕ
program_name [] = []
program_name (word ∷ words) = stripped word

-- a command whose program exited with 0: its step, counted from 1, and the files that it left
pub record Ran : Type 0 where
  pub steps : ℕ
  pub world : World

-- the result of a command: it ran, or it stops the script for a cause at a step
abbrev pub CommandResult : Type 0
CommandResult = Result Ran (CommandCause × ℕ)

-- a start is refused if the file is not a program. The law `no_other_refusal` says that the other two refusals do not occur: words and
-- files of a script are within their limits.
abbrev pub refused_start : Refusal → CommandCause
refused_start (Elf refusal) = cause.Elf refusal
refused_start ArgsTooLong = cause.NoProgram
refused_start BoxTooLarge = cause.NoProgram

abbrev pub by_status : ℕ → ℕ → World → CommandResult
by_status status step world = if status == 0 then Ok (record { steps = step; world = world }) else Err (cause.Status status, step)

-- an end occurs in the step that follows the state, so that step is counted too
abbrev pub by_first_end : ℕ → Option (End × GuestState) → CommandResult
by_first_end most None = Err (cause.Spent, most)
by_first_end most (Some (Exited status, guest)) = by_status status (guest.steps + 1) guest.world
by_first_end most (Some (Trapped why, guest)) = Err (cause.Trap why, guest.steps + 1)
by_first_end most (Some (UnknownCall number, guest)) = Err (cause.Call number, guest.steps + 1)

abbrev pub by_started : ℕ → Result GuestState Refusal → CommandResult
by_started most (Err refusal) = Err (refused_start refusal, 0)
by_started most (Ok guest) = by_first_end most (first_end guest most)

abbrev pub by_program : ℕ → World → List (List ℕ) → Option (List ℕ) → CommandResult
by_program most world words None = Err (cause.NoProgram, 0)
by_program most world words (Some program) = by_started most (start_of program (command_box world words))

-- a command on the files that exist, within `most` steps: its program is the content of the program's name now
unfoldable pub command : ℕ → World → List (List ℕ) → CommandResult
command most world words = by_program most world words (content_at world (program_name words))

-- ---- all commands

-- all commands ran, and the last one left these files; or the command of this number, from 1, stopped the script
pub data Folded : Type 0 where
  RanAll : (ran : List Ran) → (world : World) → Folded
  Stopped : (number : ℕ) → CommandCause → (step : ℕ) → Folded

abbrev pub after_command : ℕ → CommandResult → (Ran → Folded) → Folded
after_command number (Err why) next = Stopped number why.0 why.1
after_command number (Ok ran) next = next ran

-- the remaining commands, after those that ran, on the files that exist now
abbrev pub fold_from : ℕ → List Ran → World → List (List (List ℕ)) → Folded
fold_from most done world [] = RanAll done world
fold_from most done world (words ∷ commands) =
    after_command (length done + 1) (command most world words) (λ ran. fold_from most (done ++ ran ∷ []) ran.world commands)

-- a script's commands on these files, each within `most` steps
unfoldable pub folded : ℕ → World → List (List (List ℕ)) → Folded
folded most world commands = fold_from most [] world commands

-- the result of a script or of a part of it; or the command of this number, from 1, stopped it for a cause at a step
abbrev pub ScriptResult : Type 0 → Type 0
ScriptResult A = Result A (ℕ × CommandCause × ℕ)

-- the answer of a call: the result of the script, or out of memory
abbrev pub AnswersScript : {A : Type 0} → ScriptResult A → Result A ScriptStop → Type 0
AnswersScript meant (Ok found) = meant ≡ Ok found
AnswersScript meant (Err (Failed number why step)) = meant ≡ Err (number, why, step)
AnswersScript meant (Err (OutOfMemory number)) = Unit {0}
