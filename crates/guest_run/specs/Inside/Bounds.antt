-- The bounds of a heap's numbers, for any memory, and the stack space of a text.
use Rattle.std.specs.Prelude.{◌≡◌, ℕ, ◌+◌, ◌-◌, ◌%◌, ◌≤◌, List, length}
use Rattle.ddc_base.specs.Limits.{address_end, most_heap, stack_size}
use Rattle.linux_calls.specs.declared.Heap.{Heap}

pub record HasBounds (heap : Heap) : Type 0 where
  pub aligned : heap.first % 4096 ≡ 0
  pub small : heap.limit ≤ most_heap
  pub from : heap.first ≤ heap.now
  pub to : heap.now ≤ heap.first + heap.limit
  pub low : heap.first + heap.limit ≤ address_end - stack_size

-- the bytes that a text takes of a program's stack: its own, its zero byte and its address
abbrev pub cost : List ℕ → ℕ
cost text = length text + 9
