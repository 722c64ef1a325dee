-- How a `FlatRam` keeps its memory. To read the promises, this file is not needed.
-- Page numbers rise, and the bytes of all those pages are in one list, in that order.
use Rattle.std.specs.Prelude.{◌≡◌, ◌≢◌, ℕ, zero, suc, ◌+◌, ◌*◌, ◌/◌, ◌%◌, ◌^◌, ◌<◌, ◌≤◌, Option, None, Some, if◌then◌else◌, ◌==◌, List, [], ◌∷◌, ◌++◌, length, take, drop, slice_index}
use Rattle.std.specs.Option.{option_map}
use Rattle.std.specs.FinMap.{empty}
use Rattle.ddc_base.specs.Limits.{page_number_end}
use Rattle.paged_mem.specs.Memory.{Memory, with_bytes}

-- the memory of these pages, 4,096 bytes for each
unfoldable pub memory_of : List ℕ → List ℕ → Memory
memory_of [] bytes = empty
memory_of (page ∷ pages) bytes = with_bytes (memory_of pages (drop 4096 bytes)) (4096 * page) (take 4096 bytes)

-- the index of the page with this number
unfoldable pub page_index : List ℕ → ℕ → Option ℕ
page_index [] number = None
page_index (page ∷ pages) number = if page == number then Some 0 else option_map (λ i. 1 + i) (page_index pages number)

-- the index of an address's byte in the list of bytes
abbrev pub slot : List ℕ → ℕ → Option ℕ
slot pages at = option_map (λ i. 4096 * i + at % 4096) (page_index pages (at / 4096))

-- each number is below the later ones
abbrev pub Rises : List ℕ → Type 0
Rises pages = (i j : ℕ) → i < j → j < length pages → slice_index pages i < slice_index pages j

-- each number is below `page_number_end`
abbrev pub AreLow : List ℕ → Type 0
AreLow pages = (i : ℕ) → i < length pages → slice_index pages i < page_number_end

-- page numbers rise and are below `page_number_end`, and each page has 4,096 bytes
pub record AreFlatPages (pages bytes : List ℕ) : Type 0 where
  pub rising : Rises pages
  pub low : AreLow pages
  pub full : length bytes ≡ 4096 * length pages
  pub small : (i : ℕ) → slice_index bytes i < 256

-- `rank` is how many pages have a number below this one
pub record IsRank (pages : List ℕ) (number rank : ℕ) : Type 0 where
  pub within : rank ≤ length pages
  pub below : (k : ℕ) → k < rank → slice_index pages k < number
  pub above : (k : ℕ) → rank ≤ k → k < length pages → number ≤ slice_index pages k

-- the index and number of the first page with this number or a later one, and how many consecutive pages there are from it on
pub record IsRowAt (pages : List ℕ) (number start first count : ℕ) : Type 0 where
  pub rank : IsRank pages number start
  pub some : 1 ≤ count
  pub within : start + count ≤ length pages
  pub row : (k : ℕ) → k < count → slice_index pages (start + k) ≡ first + k
  pub ends : start + count < length pages → slice_index pages (start + count) ≢ first + count

abbrev pub IsRow : List ℕ → ℕ → Option (ℕ × ℕ) → Type 0
IsRow pages number None = IsRank pages number (length pages)
IsRow pages number (Some row) = (start : ℕ) × IsRowAt pages number start row.0 row.1

-- the index where the bytes of count consecutive addresses begin in the list, or none if one of those addresses is on none of the pages
abbrev pub Spans : List ℕ → ℕ → ℕ → Option ℕ → Type 0
Spans pages at count (Some start) = (start + count ≤ 4096 * length pages) × ((k : ℕ) → k < count → slot pages (at + k) ≡ Some (start + k))
Spans pages at count None = (k : ℕ) × (k < count) × (slot pages (at + k) ≡ None)

-- a list in which these elements replace as many from an index on
abbrev pub overwritten : List ℕ → ℕ → List ℕ → List ℕ
overwritten bytes start source = take start bytes ++ (source ++ drop (start + length source) bytes)

-- the little-endian number of count bytes from an index on
abbrev pub number_at : List ℕ → ℕ → ℕ → ℕ
number_at bytes start zero = 0
number_at bytes start (suc count) = slice_index bytes start + 256 * number_at bytes (1 + start) count
