-- Where the audit of a script may run out of memory. docs/reference/kaem.md says the same for people.
use Rattle.std.specs.Prelude.{◌≡◌, ℕ, ◌+◌, Some, IsOk, List, [], ◌∷◌, length, take, drop}
use Rattle.mem_files.specs.World.{World}
use Rattle.mem_files.specs.Calls.{content_at}
use Rattle.guest_run.specs.Start.{start_of}
use Rattle.kaem_script.specs.declared.fold.ScriptStop.{ScriptStop}
use Rattle.kaem_script.specs.declared.fold.ScriptStop.TheVariants.{Failed, OutOfMemory}
use Rattle.kaem_script.specs.Fold.{RanAll, Ran, command_box, folded, program_name}

-- a command's program exists, and starts in the command's execution context: this is judged before memory is allocated
pub record HasProgram (world : World) (words : List (List ℕ)) : Type 0 where
  pub program : List ℕ
  pub there : content_at world (program_name words) ≡ Some program
  pub starts : IsOk (start_of program (command_box world words))

-- the first of these commands has its program
abbrev pub FirstHasProgram : World → List (List (List ℕ)) → Type 0
FirstHasProgram world [] = Unit {0}
FirstHasProgram world (words ∷ commands) = HasProgram world words

-- at the command of this number, from 1: those before it all ran and left these files, where it has its program. The number that follows the
-- last command is that of the report
pub record WantsAt (most : ℕ) (world : World) (commands : List (List (List ℕ))) (number : ℕ) : Type 0 where
  pub ran : List Ran
  pub left : World
  pub number_is : number ≡ length ran + 1
  pub before : folded most world (take (length ran) commands) ≡ RanAll ran left
  pub here : FirstHasProgram left (drop (length ran) commands)

-- a fact on the number of the command at which memory ran out
abbrev pub OnScriptWant : ScriptStop → (ℕ → Type 0) → Type 0
OnScriptWant (Failed number why step) fact = Unit {0}
OnScriptWant (OutOfMemory number) fact = fact number
