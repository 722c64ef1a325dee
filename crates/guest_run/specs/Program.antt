-- A program's whole run, from its start in an execution context to its exit.
-- docs/reference/running.md says the same for people.
use Rattle.std.specs.Prelude.{◌≡◌, ℕ, Some, Ok, List}
use Rattle.mem_files.specs.World.{World}
use Rattle.guest_run.specs.Setting.{Setting}
use Rattle.guest_run.specs.State.{GuestState}
use Rattle.guest_run.specs.Start.{start_of}
use Rattle.guest_run.specs.Run.{Exited, end_at}

-- the program starts in this execution context, exits at step n, counted from 1, with the status s, and leaves these files
pub record ProgramRun (program : List ℕ) (setting : Setting) (n s : ℕ) (world : World) : Type 0 where
  pub start : GuestState
  pub last : GuestState
  pub starts : start_of program setting ≡ Ok start
  pub ends : end_at start n ≡ Some (Exited s, last)
  pub leaves : last.world ≡ world
