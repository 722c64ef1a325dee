-- What a replay answers by the first fault of a script's report. docs/reference/kaem.md says the same for people.
use Rattle.std.specs.Prelude.{◌≡◌, ◌≤◌, ℕ, zero, suc, true, bytes_eq, Option, None, Some, Ok, List, ◌∷◌}
use Rattle.ddc_base.specs.Limits.{most_steps}
use Rattle.mem_files.specs.World.{World}
use Rattle.report.specs.declared.script.types.CommandLine.{CommandLine}
use Rattle.report.specs.declared.script.types.ScriptReport.{ScriptReport}
use Rattle.kaem_script.specs.declared.verdict.ScriptPart.{ScriptPart}
use Rattle.kaem_script.specs.declared.verdict.ScriptVerdict.{ScriptVerdict}
use Rattle.kaem_script.specs.declared.verdict.ScriptVerdict.TheVariants.{Yes, Refuted, OutOfMemory}
use Rattle.kaem_script.specs.Faults.{replayed_command, wrong_file}
use Rattle.kaem_script.specs.FilesListed.{FilesListed, listed_files}
use Rattle.kaem_script.specs.Script.{ScriptContents}
use Rattle.kaem_script.specs.Wants.{HasProgram}

abbrev pub script_verdict : Option (ScriptPart × ℕ) → ScriptVerdict
script_verdict None = Yes
script_verdict (Some (part, place)) = Refuted part place

-- an answer to a report with this first fault: the verdict, or out of memory
abbrev pub JudgesScript : Option (ScriptPart × ℕ) → ScriptVerdict → Type 0
JudgesScript fault (OutOfMemory number) = Unit {0}
JudgesScript fault answer = answer ≡ script_verdict fault

-- a fact on the number of the command at which memory ran out
abbrev pub OnVerdictWant : ScriptVerdict → (ℕ → Type 0) → Type 0
OnVerdictWant (OutOfMemory number) fact = fact number
OnVerdictWant answer fact = Unit {0}

-- what is judged of a command's line before memory is allocated: its step is from 1 to 2^48, and its program exists and starts
pub record CanReplay (world : World) (words : List (List ℕ)) (step : ℕ) : Type 0 where
  pub some : 1 ≤ step
  pub few : step ≤ most_steps
  pub program : HasProgram world words

-- Memory may run out at the command of this number, from 1, of the remaining commands with their lines, over these files. The lines of all commands
-- before it are right, and so is what is judged of its own line.
abbrev pub CanWantFrom : World → List (List (List ℕ)) → List CommandLine → ℕ → Type 0
CanWantFrom world (words ∷ commands) (line ∷ lines) (suc zero) = CanReplay world words line.steps
CanWantFrom world (words ∷ commands) (line ∷ lines) (suc (suc number)) =
    (left : World) × (replayed_command world words line ≡ Ok left) × CanWantFrom left commands lines (suc number)
CanWantFrom world _ _ number = ⊥

-- where memory can run out: the header and all listed files are right, and all commands before the one of this number
pub record WantsAtCommand (script : ScriptContents) (listed : FilesListed) (report : ScriptReport) (number : ℕ) : Type 0 where
  pub header : bytes_eq script.digest.0 report.script.0 ≡ true
  pub files_right : wrong_file 1 (listed_files listed) report.files ≡ None
  pub here : CanWantFrom listed.world script.commands report.commands number
