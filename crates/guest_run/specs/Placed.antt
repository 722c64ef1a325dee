-- The memory of a starting program: its segments and its stack.
-- docs/reference/running.md says the same for people.
use Rattle.std.specs.Prelude.{ℕ, ◌-◌, List, take, drop}
use Rattle.std.specs.List.{fold}
use Rattle.std.specs.FinMap.{empty}
use Rattle.ddc_base.specs.Limits.{stack_size}
use Rattle.paged_mem.specs.Memory.{Memory, with_bytes, zeros}
use Rattle.elf_load.specs.declared.Segment.{Segment}
use Rattle.elf_load.specs.Segments.{first_page, paged_size}
use Rattle.guest_run.specs.Stack.{stack_end}

-- the segment's bytes in the file
abbrev pub segment_bytes : List ℕ → Segment → List ℕ
segment_bytes program segment = take segment.file_size (drop segment.offset program)

-- a memory with a segment's pages, which hold the segment's bytes of the file and otherwise zeros
unfoldable pub with_segment : List ℕ → Memory → Segment → Memory
with_segment program memory segment =
    with_bytes (with_bytes memory (first_page segment) (zeros (paged_size segment))) segment.address (segment_bytes program segment)

-- the memory of the segments alone
abbrev pub with_segments : List ℕ → List Segment → Memory
with_segments program segments = fold (with_segment program) empty segments

-- a memory with the stack's pages, which hold these bytes from an address on and otherwise zeros
unfoldable pub with_stack : Memory → ℕ → List ℕ → Memory
with_stack memory at bytes = with_bytes (with_bytes memory (stack_end - stack_size) (zeros stack_size)) at bytes
