-- What it means that a command ran: a run of its program.
use Rattle.std.specs.Prelude.{◌≡◌, ℕ, ◌≤◌, Some, List}
use Rattle.mem_files.specs.World.{World}
use Rattle.mem_files.specs.Calls.{content_at}
use Rattle.guest_run.specs.Program.{ProgramRun}
use Rattle.kaem_script.specs.Fold.{Ran, command_box, program_name}

-- the program at its name, in the execution context of all files that exist, exits with 0 at this step, at most `most`, and leaves this
-- file system
pub record IsCommandRun (most : ℕ) (world : World) (words : List (List ℕ)) (ran : Ran) : Type 0 where
  pub program : List ℕ
  pub there : content_at world (program_name words) ≡ Some program
  pub run : ProgramRun program (command_box world words) ran.steps 0 ran.world
  pub within : ran.steps ≤ most
