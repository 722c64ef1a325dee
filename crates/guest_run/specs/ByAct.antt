-- A program's run on any machine: a parameter says what a hart does at each step. With `act` it is the run itself. With
-- `act_without_atomics` it is the run on a machine of RV64I and M alone.
use Rattle.std.specs.Prelude.{◌≡◌, ℕ, zero, suc, Option, None, Some, option_and_then, Ok, List}
use Rattle.mem_files.specs.World.{World}
use Rattle.rv64_machine.specs.Hart.{Act, HartState}
use Rattle.guest_run.specs.Setting.{Setting}
use Rattle.guest_run.specs.State.{GuestState}
use Rattle.guest_run.specs.Start.{start_of}
use Rattle.guest_run.specs.Run.{End, Exited, Next, end_of, step_of_act, went_to}

-- one step
unfoldable pub next_by : (HartState → Act) → GuestState → Next
next_by acts guest = step_of_act guest (acts guest.hart)

-- the state after this many continuing steps; `None` if one of them ends the run
unfoldable pub after_by : (HartState → Act) → GuestState → ℕ → Option GuestState
after_by acts guest zero = Some guest
after_by acts guest (suc count) = option_and_then (λ last. went_to (next_by acts last)) (after_by acts guest count)

-- the end of the run at a step, counted from 1, and the state that it leaves
unfoldable pub end_at_by : (HartState → Act) → GuestState → ℕ → Option (End × GuestState)
end_at_by acts guest zero = None
end_at_by acts guest (suc count) = option_and_then (λ last. end_of last (next_by acts last)) (after_by acts guest count)

-- the program starts in this execution context, exits at step n with the status s, and leaves these files
pub record ProgramRunBy (acts : HartState → Act) (program : List ℕ) (setting : Setting) (n s : ℕ) (world : World) : Type 0 where
  pub start : GuestState
  pub last : GuestState
  pub starts : start_of program setting ≡ Ok start
  pub ends : end_at_by acts start n ≡ Some (Exited s, last)
  pub leaves : last.world ≡ world
