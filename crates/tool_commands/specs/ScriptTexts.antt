-- What the commands on scripts print. docs/reference/command-line.md says the same for people.
use Rattle.std.specs.Prelude.{ℕ, List, [], ◌∷◌, codes, decimal}
use Rattle.ddc_base.specs.Lines.{line}
use Rattle.kaem_script.specs.declared.cause.CommandCause.{CommandCause}
use Rattle.kaem_script.specs.declared.cause.CommandCause.TheVariants.{NoProgram, Elf, Trap, Call, Status, Spent}
use Rattle.kaem_script.specs.declared.refusal.ScriptFault.{ScriptFault}
use Rattle.kaem_script.specs.declared.refusal.ScriptFault.TheVariants.{OpenQuote, BadWord, LongWord, TooManyWords, TooMany}
use Rattle.kaem_script.specs.declared.verdict.ScriptPart.{ScriptPart}
use Rattle.kaem_script.specs.Words.{script_part_word}
use Rattle.command_plan.specs.Causes.Texts.{call_text, elf_text, spent_text, status_text, trap_text}
use Rattle.tool_commands.specs.RunProgram.{step_words}

-- the number of a script's fault
abbrev pub script_fault_number : ScriptFault → ℕ
script_fault_number OpenQuote = 1
script_fault_number BadWord = 2
script_fault_number LongWord = 3
script_fault_number TooManyWords = 4
script_fault_number TooMany = 5

-- the line of a file that is not a script: its first fault, and the byte offset of the word
unfoldable pub script_line : ScriptFault → ℕ → List ℕ
script_line fault offset = line (codes "script" ∷ codes "refused" ∷ decimal (script_fault_number fault) ∷ decimal offset ∷ [])

-- the line where all commands ran: their number and their steps together
unfoldable pub done_line : ℕ → ℕ → List ℕ
done_line commands steps = line (codes "done" ∷ decimal commands ∷ codes "steps" ∷ decimal steps ∷ [])

-- why a command stopped its script
abbrev pub command_cause_text : CommandCause → List ℕ
command_cause_text NoProgram = codes "no-program"
command_cause_text (Elf refusal) = elf_text refusal
command_cause_text (Trap cause) = trap_text cause
command_cause_text (Call number) = call_text number
command_cause_text (Status status) = status_text status
command_cause_text Spent = spent_text

-- the line of the command that stopped the script: its number, the cause and the step
unfoldable pub command_failed_line : ℕ → CommandCause → ℕ → List ℕ
command_failed_line number cause step =
    line (codes "run" ∷ codes "failed" ∷ decimal number ∷ command_cause_text cause ∷ step_words step)

-- the line of a true report, by the number of its commands; the line of a false one, by its first false part and the place of that part
unfoldable pub commands_true_line : ℕ → List ℕ
commands_true_line commands = line (codes "yes" ∷ decimal commands ∷ [])

unfoldable pub script_refuted_line : ScriptPart → ℕ → List ℕ
script_refuted_line part place = line (codes "refuted" ∷ script_part_word part ∷ decimal place ∷ [])
