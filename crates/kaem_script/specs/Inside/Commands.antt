-- The results of a command and of all commands, as the code has them.
use Rattle.std.specs.Prelude.{◌≡◌, ℕ, ◌≤◌, Result, Ok, Err, List, [], map}
use Rattle.std.specs.List.{fold}
use Rattle.std.specs.FinMap as files
use Rattle.ddc_base.specs.Limits.{usual_heap}
use Rattle.mem_files.specs.World.{World}
use Rattle.mem_files.specs.Calls.{first_world}
use Rattle.mem_files.specs.Outputs.{left}
use Rattle.guest_run.specs.Setting.{Setting}
use Rattle.guest_run.specs.Start.{with_given}
use Rattle.guest_run.specs.Run.{first_end}
use Rattle.guest_run.specs.State.{GuestState}
use Rattle.kaem_script.specs.declared.cause.CommandCause.{CommandCause}
use Rattle.report.specs.declared.script.types.CommandLine.{CommandLine}
use Rattle.kaem_script.specs.declared.present.Present.{Present}
use Rattle.kaem_script.specs.declared.present.Present.TheVariants.{Given, Left}
use Rattle.kaem_script.specs.declared.fold.ScriptStop.{ScriptStop}
use Rattle.kaem_script.specs.declared.fold.ScriptStop.TheVariants.{Failed, OutOfMemory}
use Rattle.kaem_script.specs.Fold.{CommandResult, RanAll, Folded, Ran, Stopped, by_first_end, command}
use Rattle.kaem_script.specs.Leaving.{LeftResult, command_left, end_of_run}
use Rattle.kaem_script.specs.Reported.{command_line}
use Rattle.kaem_script.specs.declared.leaving.CommandLeft.{CommandLeft}

-- the files that exist
abbrev pub world_in : Present → World
world_in (Given files) = files.now
world_in (Left files) = files

-- the files with which a program starts after one that left these
unfoldable pub renewed : World → World
renewed world = fold with_given first_world (left world)

-- the execution context of a command's program, without its files
abbrev pub texts_of : List (List ℕ) → Setting
texts_of words = record { args = words; env = []; files = files.empty; heap = usual_heap }

-- the result of a command by the guest that its program starts as, without files, or why it does not start
abbrev pub Begins : World → List (List ℕ) → ℕ → Result GuestState CommandCause → Type 0
Begins world words most (Ok guest) = command most world words ≡ by_first_end most (first_end (record guest { world = renewed world }) most)
Begins world words most (Err why) = command most world words ≡ Err (why, 0)

-- what a command leaves by the guest that its program starts as, without files, or why it does not start
abbrev pub BeginsLeft : World → List (List ℕ) → ℕ → ℕ → Result GuestState CommandCause → Type 0
BeginsLeft world words most number (Ok guest) = command_left most number world words ≡ Ok (end_of_run (record guest { world = renewed world }) most)
BeginsLeft world words most number (Err why) = command_left most number world words ≡ Err (number, why, 0)

abbrev pub LeavesOver : LeftResult → ℕ → Result CommandLeft CommandCause → Type 0
LeavesOver meant number (Ok left) = meant ≡ Ok left
LeavesOver meant number (Err why) = meant ≡ Err (number, why, 0)

-- a command that ran, by its line and the files that it left
abbrev pub ran_with : CommandLine → World → Ran
ran_with line world = record { steps = line.steps; world = world }

abbrev pub IsRun : CommandResult → CommandLine → World → Type 0
IsRun meant line world = (meant ≡ Ok (ran_with line world)) × (line ≡ command_line (ran_with line world))

abbrev pub Exits : CommandResult → World → Result CommandLine (CommandCause × ℕ) → Type 0
Exits meant world (Ok line) = IsRun meant line world
Exits meant world (Err why) = meant ≡ Err why

abbrev pub Comes : CommandResult → Result (CommandLine × World) (CommandCause × ℕ) → Type 0
Comes meant (Ok exited) = IsRun meant exited.0 exited.1
Comes meant (Err why) = meant ≡ Err why

-- all commands ran, with these lines, and these files are left
pub record Finishes (meant : Folded) (lines : List CommandLine) (world : World) : Type 0 where
  pub done : List Ran
  pub is : meant ≡ RanAll done world
  pub lines_are : lines ≡ map command_line done

abbrev pub Folds : Folded → Result (List CommandLine × Present) ScriptStop → Type 0
Folds meant (Ok ran) = Finishes meant ran.0 (world_in ran.1)
Folds meant (Err (Failed number why step)) = meant ≡ Stopped number why step
Folds meant (Err (OutOfMemory number)) = Unit {0}

-- memory ran out at one of `count` commands
abbrev pub WantsWithin : ℕ → ScriptStop → Type 0
WantsWithin count (Failed number why step) = Unit {0}
WantsWithin count (OutOfMemory number) = number ≤ count

-- a fact, unless a command stopped its script: the script continues, or memory ran out
abbrev pub UnlessStopped : {A B E : Type 0} → Result (Result A B) E → Type 0 → Type 0
UnlessStopped (Ok (Err why)) fact = Unit {0}
UnlessStopped answer fact = fact
