-- Segments: what a file places in memory, and in which pages.
-- docs/reference/loader.md is the page for readers.
use Rattle.std.specs.Prelude.{◌≤◌, ◌<◌, ℕ, ◌+◌, ◌-◌, ◌*◌, ◌/◌, ◌==◌, Bool, false, ◌&&◌, ◌||◌, not, nat_lt, nat_le, List, [], ◌∷◌, ◌⊎◌, max, map}
use Rattle.std.specs.List.{filter, fold, list_any}
use Rattle.ddc_base.specs.Limits.{most_address}
use Rattle.paged_mem.specs.Memory.{page_up}
use Rattle.elf_load.specs.declared.Segment.{Segment}
use Rattle.elf_load.specs.Fields.{headers, p_type, p_offset, p_vaddr, p_filesz, p_memsz}

-- PT_INTERP: the program requests an interpreter
abbrev pub is_interpreter : List ℕ → ℕ → Bool
is_interpreter file header = p_type file header == 3

-- PT_LOAD, if it takes memory at all
abbrev pub is_load : List ℕ → ℕ → Bool
is_load file header = p_type file header == 1 && not (p_memsz file header == 0)

-- the segment that the program header at `header` describes
abbrev pub segment_at : List ℕ → ℕ → Segment
segment_at file header = record {
  address = p_vaddr file header;
  offset = p_offset file header;
  file_size = p_filesz file header;
  memory_size = p_memsz file header;
}

-- the segments of those program headers that take memory
unfoldable pub loads_among : List ℕ → List ℕ → List Segment
loads_among file offsets = map (segment_at file) (filter (is_load file) offsets)

-- the segments of a file, in the order of its header table
abbrev pub segments_of : List ℕ → List Segment
segments_of file = loads_among file (headers file)

-- the last multiple of 4,096 that is not above `n`
abbrev pub page_down : ℕ → ℕ
page_down n = n / 4096 * 4096

-- where a segment ends in memory
abbrev pub segment_end : Segment → ℕ
segment_end segment = segment.address + segment.memory_size

-- the segment's pages: from the page of its first byte to the end of the page of its last
unfoldable pub first_page : Segment → ℕ
first_page segment = page_down segment.address

unfoldable pub page_end : Segment → ℕ
page_end segment = page_up (segment_end segment)

-- the number of bytes of the segment's pages
abbrev pub paged_size : Segment → ℕ
paged_size segment = page_end segment - first_page segment

-- whether a segment has more bytes in the file than in memory, bytes past the end of a file of `size` bytes, or pages above 2^37
unfoldable pub is_out_of_range : ℕ → Segment → Bool
is_out_of_range size segment =
    nat_lt segment.memory_size segment.file_size
    || nat_lt size (segment.offset + segment.file_size)
    || nat_lt most_address (page_end segment)

-- whether two segments have a page in common
abbrev pub share_page : Segment → Segment → Bool
share_page one other = nat_lt (first_page one) (page_end other) && nat_lt (first_page other) (page_end one)

-- whether some two of the segments have a page in common
abbrev pub any_share : List Segment → Bool
any_share [] = false
any_share (segment ∷ rest) = list_any (share_page segment) rest || any_share rest

-- whether the address is one of the segment's bytes in memory
abbrev pub holds_address : ℕ → Segment → Bool
holds_address address segment = nat_le segment.address address && nat_lt address (segment_end segment)

-- the end of the last segment, rounded up to whole pages: the first byte of the heap
abbrev pub break_after : List Segment → ℕ
break_after segments = page_up (fold (λ most segment. max most (segment_end segment)) 0 segments)

-- the segment's bytes are in a file of `size` bytes, and its pages are below 2^37
pub record IsPlaced (size : ℕ) (segment : Segment) : Type 0 where
  pub is_there : 0 < segment.memory_size
  pub file_size : segment.file_size ≤ segment.memory_size
  pub in_range : segment.offset + segment.file_size ≤ size
  pub low : page_end segment ≤ most_address

-- all pages of one are below those of the other
abbrev pub AreApart : Segment → Segment → Type 0
AreApart one other = (page_end one ≤ first_page other) ⊎ (page_end other ≤ first_page one)
