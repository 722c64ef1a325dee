-- The results of the parts of a call that use only the files, or only the memory and the heap.
use Rattle.std.specs.Prelude.{◌≡◌, ℕ, ◌<◌, Result, IsOk}
use Rattle.mem_files.specs.World.{World}
use Rattle.paged_mem.specs.Memory.{Memory, page_up}
use Rattle.linux_calls.specs.declared.Heap.{Heap}
use Rattle.linux_calls.specs.declared.CallEnd.{CallEnd}
use Rattle.linux_calls.specs.declared.CallEnd.TheVariants.{Back, OutOfMemory}
use Rattle.linux_calls.specs.HeapOf.{break_heap, break_memory}
use Rattle.linux_calls.specs.Calls.{answer_of}

-- the result of a call that uses only the files
abbrev pub IsFilesAnswer : World → World → Result ℕ ℕ × World → CallEnd → Type 0
IsFilesAnswer old new meant (Back value) = (value ≡ answer_of meant.0) × (new ≡ meant.1)
IsFilesAnswer old new meant OutOfMemory = IsOk meant.0 × (new ≡ old)
IsFilesAnswer old new meant end = ⊥

-- the result of brk, which uses only the memory and the heap
abbrev pub IsBreakAnswer : Memory → Heap → ℕ → Memory → Heap → CallEnd → Type 0
IsBreakAnswer m heap to m' heap' (Back value) = (value ≡ (break_heap heap to).now) × (m' ≡ break_memory m heap to) × (heap' ≡ break_heap heap to)
IsBreakAnswer m heap to m' heap' OutOfMemory = (page_up heap.now < page_up (break_heap heap to).now) × (m' ≡ m) × (heap' ≡ heap)
IsBreakAnswer m heap to m' heap' end = ⊥
