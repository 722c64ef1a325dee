-- The first fault of a script's report, part by part in the order of docs/reference/kaem.md, which says the same for people. A command's
-- recorded step is checked and not searched for. Its program and its files are the bytes that the commands before it left. Digests are
-- SHA-256 (FIPS 180-4).
use Rattle.std.specs.Prelude.{ℕ, ◌+◌, ◌==◌, Bool, true, false, ◌&&◌, if◌then◌else◌, nat_le, bytes_eq, Option, None, Some, Result, Ok, Err, List, [], ◌∷◌, option_map}
use Rattle.ddc_base.specs.Limits.{most_steps}
use Rattle.mem_files.specs.World.{World}
use Rattle.mem_files.specs.Outputs.{left}
use Rattle.report.specs.declared.types.LeftLine.{LeftLine}
use Rattle.report.specs.declared.script.types.CommandLine.{CommandLine}
use Rattle.report.specs.declared.script.types.ScriptReport.{ScriptReport}
use Rattle.report.specs.Marks.{is_mark_of}
use Rattle.kaem_script.specs.declared.verdict.ScriptPart.{ScriptPart}
use Rattle.kaem_script.specs.declared.verdict.ScriptPart.TheVariants as part
use Rattle.kaem_script.specs.Fold.{CommandResult, command}
use Rattle.kaem_script.specs.FilesListed.{FilesListed, listed_files}
use Rattle.kaem_script.specs.Script.{ScriptContents}

-- a line has the name of this file and the mark of its bytes
abbrev pub says_file : LeftLine → List ℕ × List ℕ → Bool
says_file line file = bytes_eq line.name file.0 && is_mark_of line.mark file.1

-- ---- the listed files: a line for each, in the order of the list

-- the number, counted on from this one, of the first file without a matching line, or of the first surplus line
abbrev pub wrong_file : ℕ → List (List ℕ × List ℕ) → List LeftLine → Option ℕ
wrong_file number [] [] = None
wrong_file number (file ∷ files) (line ∷ lines) = if says_file line file then wrong_file (number + 1) files lines else Some number
wrong_file number _ _ = Some number

-- ---- the commands, each after those before it

-- the files that a command left, if it took exactly this many steps
abbrev pub left_after_steps : ℕ → CommandResult → Option World
left_after_steps step (Ok ran) = if ran.steps == step then Some ran.world else None
left_after_steps step (Err why) = None

-- the files that a command leaves, if its run ends with an exit with 0 at exactly this step, which is from 1 to 2^48
unfoldable pub left_at_step : World → List (List ℕ) → ℕ → Option World
left_at_step world words step = if nat_le 1 step && nat_le step most_steps then left_after_steps step (command step world words) else None

-- a command's line agrees with what it wrote to its streams
abbrev pub says_streams : CommandLine → World → Bool
says_streams line world = is_mark_of line.stream1 world.stream1 && is_mark_of line.stream2 world.stream2

-- the result of replaying a command's line: the files that the command left, or the part that fails
abbrev pub by_streams : CommandLine → Option World → Result World ScriptPart
by_streams line None = Err part.Run
by_streams line (Some world) = if says_streams line world then Ok world else Err part.Streams

unfoldable pub replayed_command : World → List (List ℕ) → CommandLine → Result World ScriptPart
replayed_command world words line = by_streams line (left_at_step world words line.steps)

-- the fault of the command of this number, otherwise the result of the rest
abbrev pub fault_after_command : ℕ → Result World ScriptPart → (World → Option (ScriptPart × ℕ)) → Option (ScriptPart × ℕ)
fault_after_command number (Err part) rest = Some (part, number)
fault_after_command number (Ok world) rest = rest world

-- the first fault of the commands from this number on, given the files that exist now, and then of the files at the end. A command
-- without a line, and a surplus line, are faults in their turn
abbrev pub commands_fault : (World → Option (ScriptPart × ℕ)) → ℕ → World → List (List (List ℕ)) → List CommandLine → Option (ScriptPart × ℕ)
commands_fault last number world [] [] = last world
commands_fault last number world (words ∷ commands) (line ∷ lines) =
    fault_after_command number (replayed_command world words line) (λ left. commands_fault last (number + 1) left commands lines)
commands_fault last number world _ _ = Some (part.Run, number)

-- ---- the files at the end: a line for each, in the order of the names

abbrev pub says_files : List LeftLine → List (List ℕ × List ℕ) → Bool
says_files [] [] = true
says_files (line ∷ lines) (file ∷ files) = says_file line file && says_files lines files
says_files _ _ = false

abbrev pub left_fault : List LeftLine → World → Option (ScriptPart × ℕ)
left_fault lines world = if says_files lines (left world) then None else Some (part.Left, 0)

-- ---- all parts

-- the first fault, if there is one, otherwise the later one
abbrev pub fault_or : Option (ScriptPart × ℕ) → Option (ScriptPart × ℕ) → Option (ScriptPart × ℕ)
fault_or (Some fault) later = Some fault
fault_or None later = later

abbrev pub files_fault : List (List ℕ × List ℕ) → List LeftLine → Option (ScriptPart × ℕ)
files_fault files lines = option_map (λ number. (part.File, number)) (wrong_file 1 files lines)

-- the first part of a report that fails, with the number of the file or of the command from 1, or 0 for the header and the files at the
-- end. `None` if every word of the report is true
unfoldable pub first_script_fault : ScriptContents → FilesListed → ScriptReport → Option (ScriptPart × ℕ)
first_script_fault script listed report =
    if bytes_eq script.digest.0 report.script.0
    then fault_or (files_fault (listed_files listed) report.files)
    (commands_fault (left_fault report.left) 1 listed.world script.commands report.commands)
    else Some (part.Header, 0)
