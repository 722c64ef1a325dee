-- How a `PagedRam` keeps its memory: page numbers rise, each page has an entry, and three rows of pages need no search.
use Rattle.std.specs.Prelude.{◌≡◌, ℕ, ◌+◌, ◌*◌, ◌/◌, ◌%◌, ◌<◌, ◌≤◌, Option, None, Some, IsSome, List, [], ◌∷◌, ◌++◌, length, slice_index, slice_index_or}
use Rattle.std.specs.Global.{Box}
use Rattle.ddc_base.specs.Limits.{address_end}
use Rattle.paged_mem.specs.Memory.{zeros}
use Rattle.paged_mem.specs.Inside.Flat.{AreFlatPages}
use Rattle.paged_mem.specs.declared.rows.PageRow.{PageRow}
use Rattle.paged_mem.specs.declared.rows.Rows.{Rows}

-- a page's bytes, or nothing if all of them are zero
abbrev pub Entry : Type 0
Entry = Option (Box (List ℕ))

-- the bytes of an entry's page
abbrev pub page_content : Entry → List ℕ
page_content None = zeros 4096
page_content (Some page) = page.value

-- the bytes of the pages, one page after the other
unfoldable pub flat : List Entry → List ℕ
flat [] = []
flat (entry ∷ entries) = page_content entry ++ flat entries

-- each entry has 4,096 bytes
abbrev pub AreFull : List Entry → Type 0
AreFull entries = (i : ℕ) → length (page_content (slice_index_or entries i None)) ≡ 4096

-- the numbers of the pages whose entry has stored bytes
unfoldable pub held_pages : List ℕ → List Entry → List ℕ
held_pages (page ∷ pages) (Some bytes ∷ entries) = page ∷ held_pages pages entries
held_pages (page ∷ pages) (None ∷ entries) = held_pages pages entries
held_pages _ _ = []

-- the page numbers and entries represent a memory
pub record ArePages (pages : List ℕ) (entries : List Entry) : Type 0 where
  pub sound : AreFlatPages pages (flat entries)
  pub long : length entries ≡ length pages
  pub full : AreFull entries

-- the row's pages have consecutive numbers
pub record IsRowOf (pages : List ℕ) (row : PageRow) : Type 0 where
  pub aligned : row.base % 4096 ≡ 0
  pub low : row.base + row.size ≤ address_end
  pub within : 4096 * row.index + row.size ≤ 4096 * length pages
  pub numbers : (k : ℕ) → 4096 * k < row.size → slice_index pages (row.index + k) ≡ row.base / 4096 + k

-- all three rows are rows of these pages, and the first one has index 0
pub record AreRowsOf (pages : List ℕ) (rows : Rows) : Type 0 where
  pub first : IsRowOf pages rows.first
  pub start : rows.first.index ≡ 0
  pub second : IsRowOf pages rows.second
  pub last : IsRowOf pages rows.last

-- a row of at most one page; if it has one, that page's entry has stored bytes
pub record IsHeldPage (pages : List ℕ) (entries : List Entry) (page : PageRow) : Type 0 where
  pub in_row : IsRowOf pages page
  pub one : page.size ≤ 4096
  pub held : 0 < page.size → IsSome (slice_index_or entries page.index None)
