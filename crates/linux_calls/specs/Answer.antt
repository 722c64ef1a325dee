-- How a result that may be out of memory fits the defined result.
use Rattle.std.specs.Prelude.{◌≡◌, ℕ, ◌<◌, ◌⊎◌, Result, IsOk, IsOkAnd}
use Rattle.paged_mem.specs.Memory.{page_up}
use Rattle.linux_calls.specs.declared.CallEnd.{CallEnd}
use Rattle.linux_calls.specs.declared.CallEnd.TheVariants.{Back, Exit, Unknown, OutOfMemory}
use Rattle.linux_calls.specs.Linux.{sys_openat, sys_read, sys_write, sys_brk}
use Rattle.linux_calls.specs.Calls.{CallState, CallOutcome, goes, exits, is_unknown, answer_of}

-- the calls that may run out of memory: one that opens a file, one that copies bytes, one that adds pages to the heap
abbrev pub TakesMemory : ℕ → CallState → Result ℕ ℕ → CallState → Type 0
TakesMemory number old answer next =
    ((number ≡ sys_openat) × IsOk answer)
    ⊎ (((number ≡ sys_read) × IsOkAnd answer (λ count. 0 < count))
    ⊎ (((number ≡ sys_write) × IsOkAnd answer (λ count. 0 < count))
    ⊎ ((number ≡ sys_brk) × (page_up old.heap.now < page_up next.heap.now))))

-- the result and the state after it are the defined ones; or memory ran out in a call that takes memory, and the state is unchanged
abbrev pub IsAnswer : ℕ → CallState → CallState → CallOutcome → CallEnd → Type 0
IsAnswer number old new (goes answer next) (Back value) = (value ≡ answer_of answer) × (new ≡ next)
IsAnswer number old new (goes answer next) OutOfMemory = TakesMemory number old answer next × (new ≡ old)
IsAnswer number old new (exits status) (Exit code) = (code ≡ status) × (new ≡ old)
IsAnswer number old new (is_unknown n) (Unknown m) = (m ≡ n) × (new ≡ old)
IsAnswer number old new meant end = ⊥
