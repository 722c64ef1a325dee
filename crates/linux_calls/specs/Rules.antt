-- What calls keep: an error leaves the state unchanged, and a well-formed state stays well-formed.
use Rattle.std.specs.Prelude.{◌≡◌, ◌<◌, ◌^◌, ⊤, IsErr}
use Rattle.paged_mem.specs.Memory.{IsWhole}
use Rattle.mem_files.specs.Sound.{IsSound}
use Rattle.linux_calls.specs.Calls.{CallState, CallOutcome, goes, exits, is_unknown, answer_of}
use Rattle.linux_calls.specs.HeapOf.{IsHeapOf}

-- an outcome that is an error leaves the state unchanged
abbrev pub LeavesOnError : CallState → CallOutcome → Type 0
LeavesOnError s (goes answer next) = IsErr answer → next ≡ s
LeavesOnError s (exits status) = ⊤
LeavesOnError s (is_unknown n) = ⊤

-- the files after an outcome are sound
abbrev pub LeavesSound : CallOutcome → Type 0
LeavesSound (goes answer next) = IsSound next.files
LeavesSound (exits status) = ⊤
LeavesSound (is_unknown n) = ⊤

-- a well-formed state: a memory of whole pages of bytes, sound files, and a heap that fits the memory
pub record IsState (s : CallState) : Type 0 where
  pub memory : IsWhole s.memory
  pub files : IsSound s.files
  pub heap : IsHeapOf s.memory s.heap

-- the guest's result is below 2^64, and the exit status is below 256
abbrev pub LeavesNumber : CallOutcome → Type 0
LeavesNumber (goes answer next) = answer_of answer < 2 ^ 64
LeavesNumber (exits status) = status < 256
LeavesNumber (is_unknown n) = ⊤

-- the state after an outcome is well-formed
abbrev pub LeavesState : CallOutcome → Type 0
LeavesState (goes answer next) = IsState next
LeavesState (exits status) = ⊤
LeavesState (is_unknown n) = ⊤
