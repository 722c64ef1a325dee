-- `run PROGRAM STEPS ARG..`: how a program's run ends within so many steps, and what it leaves, each content by its length and its SHA-256
-- (FIPS 180-4). docs/reference/command-line.md says the same for people.
use Rattle.std.specs.Prelude.{ℕ, ◌+◌, Bool, ◌&&◌, ◌==◌, Option, Some, None, Result, Ok, Err, List, [], ◌∷◌, ◌++◌, length, unwrap_or, codes, decimal, if◌then◌else◌}
use Rattle.std.specs.List.{flat_map, list_all}
use Rattle.std.specs.FinMap as map
use Rattle.hex.specs.Hex.{encode_lower}
use Rattle.sha2.specs.Sha256.{sha256}
use Rattle.ddc_base.specs.Lines.{line}
use Rattle.ddc_base.specs.Limits.{most_content, usual_heap}
use Rattle.mem_files.specs.World.{World}
use Rattle.mem_files.specs.Outputs.{FirstStream, left, out}
use Rattle.guest_run.specs.Setting.{Setting, is_text}
use Rattle.guest_run.specs.State.{GuestState}
use Rattle.guest_run.specs.Start.{Refusal, Elf, ArgsTooLong, BoxTooLarge, start_of}
use Rattle.guest_run.specs.Run.{End, Exited, Trapped, UnknownCall, first_end}
use Rattle.command_plan.specs.declared.status.Status.{Status}
use Rattle.command_plan.specs.declared.status.Status.TheVariants.{Yes, RunFailed}
use Rattle.command_plan.specs.Causes.Texts.{trap_text, call_text, elf_text, args_text, box_text, spent_text}
use Rattle.command_plan.specs.Words.{as_steps, is_file_word, or_usage, usage}
use Rattle.command_plan.specs.Plan.{Plan, answers, needs}

-- the text of a refused start
abbrev pub refusal_text : Refusal → List ℕ
refusal_text (Elf refusal) = elf_text refusal
refusal_text ArgsTooLong = args_text
refusal_text BoxTooLarge = box_text

-- the line of a failed run, by its cause and its step
abbrev pub step_words : ℕ → List (List ℕ)
step_words step = codes "step" ∷ decimal step ∷ []

unfoldable pub failed_line : List ℕ → ℕ → List ℕ
failed_line cause step = line (codes "failed" ∷ cause ∷ step_words step)

-- the length and the digest of some bytes
abbrev pub length_and_digest : List ℕ → List (List ℕ)
length_and_digest bytes = decimal (length bytes) ∷ encode_lower (sha256 bytes) ∷ []

-- the line of a stream, and the line of a file that was left
unfoldable pub stream_line : ℕ → List ℕ → List ℕ
stream_line which bytes = line (codes "stream" ∷ decimal which ∷ length_and_digest bytes)

unfoldable pub left_line : List ℕ × List ℕ → List ℕ
left_line file = line (codes "left" ∷ encode_lower file.0 ∷ length_and_digest file.1)

-- the lines of both streams, the first of which is the program's standard output, and of every file that was left, in the byte order of
-- their names
unfoldable pub world_text : World → List ℕ
world_text world = stream_line 1 (unwrap_or (out world FirstStream) []) ++ (stream_line 2 world.stream2 ++ flat_map left_line (left world))

-- the text of an exit: its status and step, and what it left
unfoldable pub exited_line : ℕ → ℕ → List ℕ
exited_line status step = line (codes "exited" ∷ decimal status ∷ step_words step)

unfoldable pub exited_text : ℕ → ℕ → World → List ℕ
exited_text status step world = exited_line status step ++ world_text world

-- the answer for a run of at most `most` steps, by its first exit, trap, unknown call or exhausted limit and the state then; the step of
-- that end is counted too
abbrev pub status_of : ℕ → Status
status_of status = if status == 0 then Yes else RunFailed

abbrev pub end_plan : Option (End × GuestState) → ℕ → Plan
end_plan (Some (Exited status, guest)) most = answers (status_of status) (exited_text status (guest.steps + 1) guest.world)
end_plan (Some (Trapped trap, guest)) most = answers RunFailed (failed_line (trap_text trap) (guest.steps + 1))
end_plan (Some (UnknownCall number, guest)) most = answers RunFailed (failed_line (call_text number) (guest.steps + 1))
end_plan None most = answers RunFailed (failed_line spent_text most)

-- the answer for a start: that of its run, or a refusal
abbrev pub start_plan : Result GuestState Refusal → ℕ → Plan
start_plan (Ok guest) most = end_plan (first_end guest most) most
start_plan (Err why) most = answers RunFailed (failed_line (refusal_text why) 0)

-- an execution context with these arguments, no environment, no files, and a heap of at most 536,870,912 bytes
abbrev pub setting_of : List (List ℕ) → Setting
setting_of args = record { args = args; env = []; files = map.empty; heap = usual_heap }

-- loads the program, of at most 268,435,456 bytes, and runs it with its own name as its first argument
unfoldable pub run_file : List ℕ → List (List ℕ) → ℕ → Plan
run_file program args most =
    needs program most_content (λ bytes. start_plan (start_of bytes (setting_of (program ∷ args))) most)

-- a program's file name, and arguments without a zero byte
abbrev pub are_run_words : List ℕ → List (List ℕ) → Bool
are_run_words program args = is_file_word program && list_all is_text args

-- the plan for the words after `run`
abbrev pub run_plan : List (List ℕ) → Plan
run_plan (program ∷ steps ∷ args) =
    or_usage (as_steps steps) (λ most. if are_run_words program args then run_file program args most else usage)
run_plan _ = usage
