-- `kaem-left SCRIPT LIST STEPS COMMAND FILE OUT`: runs the commands of a script up to one of them, however it ends, and saves what it left
-- at FILE. docs/reference/command-line.md and docs/reference/kaem.md say the same for people.
use Rattle.std.specs.Prelude.{ℕ, ◌-◌, nat_le, ◌&&◌, if◌then◌else◌, Option, None, Some, Ok, Err, List, [], ◌∷◌, codes, decimal, length, slice_get, take}
use Rattle.ddc_base.specs.Decimals.{as_decimal}
use Rattle.ddc_base.specs.Lines.{line}
use Rattle.ddc_base.specs.Limits.{most_commands, most_files}
use Rattle.kaem_script.specs.declared.cause.CommandCause.{CommandCause}
use Rattle.kaem_script.specs.declared.cause.CommandCause.TheVariants as cause
use Rattle.kaem_script.specs.declared.leaving.CommandLeft.{CommandLeft}
use Rattle.kaem_script.specs.Leaving.{LeftResult, left_of_command}
use Rattle.command_plan.specs.declared.status.Status.{Status}
use Rattle.command_plan.specs.declared.status.Status.TheVariants.{FileRefused, RunFailed, Yes}
use Rattle.command_plan.specs.Lists.{needs_list}
use Rattle.command_plan.specs.Plan.{Plan, answers, sets}
use Rattle.command_plan.specs.Words.{as_steps, as_three_files, or_usage}
use Rattle.tool_commands.specs.GuestFiles.{as_guest_file, bytes_left_at}
use Rattle.tool_commands.specs.RunProgram.{step_words}
use Rattle.tool_commands.specs.Scripts.{file_line, needs_files, needs_script, needs_unlisted}
use Rattle.tool_commands.specs.ScriptTexts.{command_cause_text, command_failed_line}
use Rattle.tool_commands.specs.declared.words.KaemLeftWords.{KaemLeftWords}

-- ---- the answers

-- an exit with any status is a yes; every other end is not
abbrev pub command_left_status : CommandCause → Status
command_left_status (cause.Status status) = Yes
command_left_status _ = RunFailed

abbrev pub command_absent_status : CommandCause → Status
command_absent_status (cause.Status status) = FileRefused
command_absent_status _ = RunFailed

-- how the run of this command ended, where it left FILE, and where it did not
unfoldable pub command_left_line : ℕ → List ℕ → ℕ → CommandCause → ℕ → List ℕ
command_left_line number file size why step =
    line (codes "left" ∷ decimal number ∷ file ∷ decimal size ∷ command_cause_text why ∷ step_words step)

unfoldable pub command_none_left_line : ℕ → List ℕ → CommandCause → ℕ → List ℕ
command_none_left_line number file why step =
    line (codes "not" ∷ codes "left" ∷ decimal number ∷ file ∷ command_cause_text why ∷ step_words step)

-- saves what was left at FILE and answers with the end; where nothing was left, saves nothing
abbrev pub saved_by : ℕ → List ℕ → List ℕ → CommandLeft → Option (List ℕ) → Plan
saved_by number file out left (Some content) =
    sets out content (answers (command_left_status left.cause) (command_left_line number file (length content) left.cause left.step))
saved_by number file out left None = answers (command_absent_status left.cause) (command_none_left_line number file left.cause left.step)

unfoldable pub command_saved_left : ℕ → List ℕ → List ℕ → CommandLeft → Plan
command_saved_left number file out left = saved_by number file out left (bytes_left_at left.files file)

-- the command left something, or a command stopped the script: an earlier one, or this one because its program did not start
abbrev pub command_left_plan : ℕ → List ℕ → List ℕ → LeftResult → Plan
command_left_plan number file out (Ok left) = command_saved_left number file out left
command_left_plan number file out (Err stop) = answers RunFailed (command_failed_line stop.0 stop.1 stop.2)

-- ---- the arguments

-- the number of a command, from 1 to 4,096, both included
abbrev pub within_commands : Option ℕ → Option ℕ
within_commands None = None
within_commands (Some number) = if nat_le 1 number && nat_le number most_commands then Some number else None

unfoldable pub as_command_number : List ℕ → Option ℕ
as_command_number word = within_commands (as_decimal word)

-- SCRIPT, LIST and OUT name three files, and FILE is a guest's file or a stream
abbrev pub kaem_left_of : Option (List ℕ × List ℕ × List ℕ) → Option ℕ → Option ℕ → Option (List ℕ) → Option KaemLeftWords
kaem_left_of (Some files) (Some steps) (Some number) (Some file) =
    Some (record { script = files.0; list = files.1; steps = steps; command = number; wanted = record { file = file; out = files.2 } })
kaem_left_of _ _ _ _ = None

unfoldable pub kaem_left_words : List (List ℕ) → Option KaemLeftWords
kaem_left_words (script ∷ list ∷ steps ∷ command ∷ file ∷ out ∷ []) =
    kaem_left_of (as_three_files script list out) (as_steps steps) (as_command_number command) (as_guest_file file)
kaem_left_words _ = None

-- loads the script, which has such a command, the list, none of whose words names the same file as OUT, and the files; then runs the
-- commands up to that one
abbrev pub kaem_left_files : KaemLeftWords → Plan
kaem_left_files words =
    needs_script words.script (λ parsed.
    or_usage (slice_get parsed.commands (words.command - 1)) (λ command.
    needs_list file_line most_files words.list (λ names.
    needs_unlisted names words.wanted.out (λ _.
    needs_files names (λ listed.
    command_left_plan words.command words.wanted.file words.wanted.out
    (left_of_command words.steps listed.world (take (words.command - 1) parsed.commands) command))))))

-- the plan for the words after `kaem-left`
abbrev pub kaem_left_plan : List (List ℕ) → Plan
kaem_left_plan words = or_usage (kaem_left_words words) kaem_left_files
