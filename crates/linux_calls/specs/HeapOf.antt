-- The heap of a guest in its memory (docs/reference/calls.md, "The heap").
use Rattle.std.specs.Prelude.{◌≡◌, ℕ, ◌+◌, ◌-◌, ◌/◌, ◌%◌, ◌≤◌, Bool, true, nat_le, nat_lt, ◌||◌, if◌then◌else◌}
use Rattle.ddc_base.specs.Limits.{address_end, most_heap, stack_size}
use Rattle.paged_mem.specs.Memory.{Memory, maps, page_up, IsFree, with_bytes, without, zeros}
use Rattle.linux_calls.specs.declared.Heap.{Heap}

-- the pages of the heap are mapped up to the break; the rest of the pages that it may have are not
pub record IsHeapOf (m : Memory) (heap : Heap) : Type 0 where
  pub aligned : heap.first % 4096 ≡ 0
  pub small : heap.limit ≤ most_heap
  pub from : heap.first ≤ heap.now
  pub to : heap.now ≤ heap.first + heap.limit
  pub low : heap.first + heap.limit ≤ address_end - stack_size
  pub mapped : maps m heap.first (page_up heap.now - heap.first) ≡ true
  pub free : IsFree m (page_up heap.now) (page_up (heap.first + heap.limit) - page_up heap.now)

-- the address is outside all pages that the heap has or may have
abbrev pub is_apart_from_heap : Heap → ℕ → Bool
is_apart_from_heap heap address = nat_lt address heap.first || nat_le (page_up (heap.first + heap.limit)) address

-- the memory when the heap's pages end at `new` instead of `old`: new pages read 0
abbrev pub resized : Memory → ℕ → ℕ → Memory
resized m old new = if nat_lt old new then with_bytes m old (zeros (new - old)) else without m new (old - new)

-- is the address no valid break of this heap?
abbrev pub is_outside : Heap → ℕ → Bool
is_outside heap to = nat_lt to heap.first || nat_lt (heap.first + heap.limit) to

-- the heap and its memory after brk: an invalid break is refused, and nothing changes
abbrev pub break_heap : Heap → ℕ → Heap
break_heap heap to = if is_outside heap to then heap else record heap { now = to }

abbrev pub break_memory : Memory → Heap → ℕ → Memory
break_memory m heap to = if is_outside heap to then m else resized m (page_up heap.now) (page_up to)
