-- The state of a guest: its hart with memory, its files, its heap, and the number of steps taken.
use Rattle.std.specs.Prelude.{ℕ}
use Rattle.rv64_machine.specs.Hart.{HartState}
use Rattle.mem_files.specs.World.{World}
use Rattle.linux_calls.specs.declared.Heap.{Heap}

pub record GuestState : Type 0 where
  pub hart : HartState
  pub world : World
  pub heap : Heap
  pub steps : ℕ

abbrev pub guest_state : HartState → World → Heap → ℕ → GuestState
guest_state hart world heap steps = record { hart = hart; world = world; heap = heap; steps = steps }
