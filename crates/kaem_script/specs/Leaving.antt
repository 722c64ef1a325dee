-- What a command of a script left when its run ended, for whatever cause, after the commands before it. docs/reference/kaem.md says the
-- same for people.
use Rattle.std.specs.Prelude.{◌≡◌, ℕ, ◌+◌, Option, None, Some, Result, Ok, Err, List, [], ◌∷◌, ◌++◌, length, unwrap_or}
use Rattle.mem_files.specs.World.{World}
use Rattle.mem_files.specs.Calls.{content_at}
use Rattle.guest_run.specs.Run.{End, Exited, Trapped, UnknownCall, after, first_end}
use Rattle.guest_run.specs.Start.{Refusal, start_of}
use Rattle.guest_run.specs.State.{GuestState}
use Rattle.kaem_script.specs.declared.cause.CommandCause.{CommandCause}
use Rattle.kaem_script.specs.declared.cause.CommandCause.TheVariants as cause
use Rattle.kaem_script.specs.declared.leaving.CommandLeft.{CommandLeft}
use Rattle.kaem_script.specs.Fold.{CommandResult, Folded, RanAll, Ran, ScriptResult, Stopped, by_status, command_box, folded, program_name, refused_start}

-- the cause of an end; the status of an exit may be any
abbrev pub end_cause : End → CommandCause
end_cause (Exited status) = cause.Status status
end_cause (Trapped why) = cause.Trap why
end_cause (UnknownCall number) = cause.Call number

-- the end that occurs within `most` steps, in the step that follows the state; otherwise the steps are spent, with the files after them
abbrev pub end_of_run_by : GuestState → ℕ → Option (End × GuestState) → CommandLeft
end_of_run_by start most (Some (end, guest)) = record { cause = end_cause end; step = guest.steps + 1; files = guest.world }
end_of_run_by start most None = record { cause = cause.Spent; step = most; files = (unwrap_or (after start most) start).world }

unfoldable pub end_of_run : GuestState → ℕ → CommandLeft
end_of_run start most = end_of_run_by start most (first_end start most)

-- the result of a command: what it left, unless a command stops the script
abbrev pub LeftResult : Type 0
LeftResult = ScriptResult CommandLeft

-- a program that does not start leaves nothing: its command, of this number, stops the script at step 0
abbrev pub left_by_start : ℕ → ℕ → Result GuestState Refusal → LeftResult
left_by_start most number (Err refusal) = Err (number, refused_start refusal, 0)
left_by_start most number (Ok guest) = Ok (end_of_run guest most)

abbrev pub left_by_program : ℕ → ℕ → World → List (List ℕ) → Option (List ℕ) → LeftResult
left_by_program most number world words None = Err (number, cause.NoProgram, 0)
left_by_program most number world words (Some program) = left_by_start most number (start_of program (command_box world words))

-- a command on the files that exist: its program is the content of the program's name now, in the execution context of every command
unfoldable pub command_left : ℕ → ℕ → World → List (List ℕ) → LeftResult
command_left most number world words = left_by_program most number world words (content_at world (program_name words))

-- the command after those before it, one of which may stop the script
abbrev pub after_earlier : ℕ → ℕ → List (List ℕ) → Folded → LeftResult
after_earlier most number words (RanAll ran world) = command_left most number world words
after_earlier most number words (Stopped earlier why step) = Err (earlier, why, step)

-- the command after these, the first of which starts with these files
unfoldable pub left_of_command : ℕ → World → List (List (List ℕ)) → List (List ℕ) → LeftResult
left_of_command most world earlier words = after_earlier most (length earlier + 1) words (folded most world earlier)

-- ---- compared with the result of all commands

-- an exit with 0 continues the script, and every other end stops it
abbrev pub result_by_cause : CommandCause → ℕ → World → CommandResult
result_by_cause (cause.Status status) step files = by_status status step files
result_by_cause why step files = Err (why, step)

abbrev pub result_of : LeftResult → CommandResult
result_of (Ok left) = result_by_cause left.cause left.step left.files
result_of (Err stop) = Err (stop.1, stop.2)

-- the command of this number stops the script for this cause at this step; if it started, it left the state of that step
abbrev pub StopsThere : ℕ → CommandCause → ℕ → LeftResult → Type 0
StopsThere number why step (Ok left) = (left.cause ≡ why) × (left.step ≡ step)
StopsThere number why step (Err stop) = stop ≡ (number, why, step)

-- the last of commands that all ran: what it left is an exit with 0 at its step, and these files
pub record IsLast (left : LeftResult) (ran : List Ran) (world : World) : Type 0 where
  pub before : List Ran
  pub last : Ran
  pub ran_is : ran ≡ before ++ last ∷ []
  pub world_is : last.world ≡ world
  pub left_is : left ≡ Ok (record { cause = cause.Status 0; step = last.steps; files = last.world })
