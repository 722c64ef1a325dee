-- The states that a start and steps can reach: the memory besides the segments, and its size.
-- docs/reference/running.md says the same for people.
use Rattle.std.specs.Prelude.{◌≡◌, ℕ, zero, suc, ◌-◌, ◌*◌, ◌≤◌, true, ◌&&◌, List, [], ◌∷◌, count_by}
use Rattle.std.specs.FinMap.{contains_key}
use Rattle.ddc_base.specs.Limits.{most_pages_apart, page_number_end, stack_size}
use Rattle.paged_mem.specs.Memory.{Memory, maps}
use Rattle.rv64_machine.specs.Hart.{HasNumbers, IsHart}
use Rattle.mem_files.specs.Sound.{IsSound}
use Rattle.linux_calls.specs.declared.Heap.{Heap}
use Rattle.linux_calls.specs.HeapOf.{IsHeapOf, is_apart_from_heap}
use Rattle.guest_run.specs.Stack.{stack_end}
use Rattle.guest_run.specs.State.{GuestState}

-- the numbers of `count` pages, from `number` on
unfoldable pub pages_from : ℕ → ℕ → List ℕ
pages_from number zero = []
pages_from number (suc count) = number ∷ pages_from (suc number) count

-- the number of mapped pages outside the heap
unfoldable pub pages_apart : Memory → Heap → ℕ
pages_apart memory heap =
    count_by (λ page. contains_key memory (4096 * page) && is_apart_from_heap heap (4096 * page)) (pages_from 0 page_number_end)

-- memory and heap fit together, the stack is mapped, and at most 67,584 pages are outside the heap: 65,536 of segments and 2,048 of the
-- stack
pub record Fits (memory : Memory) (heap : Heap) : Type 0 where
  pub heap_of : IsHeapOf memory heap
  pub stack : maps memory (stack_end - stack_size) stack_size ≡ true
  pub few : pages_apart memory heap ≤ most_pages_apart

-- a valid state: a hart, a memory that fits its heap, and sound files
pub record IsValid (guest : GuestState) : Type 0 where
  pub hart : IsHart guest.hart
  pub numbers : HasNumbers guest.hart
  pub fits : Fits guest.hart.memory guest.heap
  pub files : IsSound guest.world
