-- What the calls of a memory return, by cases (docs/reference/memory.md).
use Rattle.std.specs.Prelude.{◌≡◌, ℕ, ◌+◌, ◌*◌, ◌/◌, ◌%◌, ◌<◌, ◌≤◌, Bool, true, false, Option, None, Some, Result, Ok, Err, List, length, ⊤}
use Rattle.std.specs.FinMap.{get}
use Rattle.ddc_base.specs.Limits.{address_end}
use Rattle.paged_mem.specs.Memory.{Memory, maps, with_bytes, bytes_of, zeros}
use Rattle.paged_mem.specs.declared.ram.Width.{Width}
use Rattle.paged_mem.specs.declared.ram.Width.TheVariants.{W1, W2, W4, W8}
use Rattle.paged_mem.specs.declared.ram.StoreRefusal.{StoreRefusal}
use Rattle.paged_mem.specs.declared.ram.StoreRefusal.TheVariants.{Unmapped, OutOfMemory}
use Rattle.paged_mem.specs.declared.ram.PageView.{PageView}
use Rattle.paged_mem.specs.declared.ram.PageView.TheVariants as page

-- how many bytes an access of this width has
abbrev pub count_of : Width → ℕ
count_of W1 = 1
count_of W2 = 2
count_of W4 = 4
count_of W8 = 8

-- bytes are written from an address on, all or none: refused exactly if one of them is unmapped, or else if memory runs out
abbrev pub Writes : Memory → ℕ → List ℕ → Result ⊤ StoreRefusal → Memory → Type 0
Writes old at bytes (Ok _) new = (maps old at (length bytes) ≡ true) × (new ≡ with_bytes old at bytes)
Writes old at bytes (Err Unmapped) new = (maps old at (length bytes) ≡ false) × (new ≡ old)
Writes old at bytes (Err OutOfMemory) new = (maps old at (length bytes) ≡ true) × (new ≡ old)

-- the low count bytes of a number are written, little-endian, under the rules of `Writes`
abbrev pub Stores : Memory → ℕ → ℕ → ℕ → Result ⊤ StoreRefusal → Memory → Type 0
Stores old at count value result new = Writes old at (bytes_of count value) result new

-- the low bytes of a number are written if the result is true; otherwise nothing changes
abbrev pub StoresNear : Memory → ℕ → ℕ → ℕ → Bool → Memory → Type 0
StoresNear old at count value true new = (maps old at (length (bytes_of count value)) ≡ true) × (new ≡ with_bytes old at (bytes_of count value))
StoresNear old at count value false new = new ≡ old

-- the first mapped page that holds or follows an address, and the consecutive mapped pages from it on
pub record IsRun (m : Memory) (at first pages : ℕ) : Type 0 where
  pub aligned : first % 4096 ≡ 0
  pub from : at / 4096 * 4096 ≤ first
  pub some : 1 ≤ pages
  pub mapped : maps m first (4096 * pages) ≡ true
  pub next : get m (first + 4096 * pages) ≡ None
  pub before : (address : ℕ) → at / 4096 * 4096 ≤ address → address < first → get m address ≡ None
  pub low : first + 4096 * pages ≤ address_end

-- the first run of mapped pages from the page of an address on, or none if no mapped byte follows
abbrev pub RunsFrom : Memory → ℕ → Option (ℕ × ℕ) → Type 0
RunsFrom m at None = (address : ℕ) → at / 4096 * 4096 ≤ address → get m address ≡ None
RunsFrom m at (Some run) = IsRun m at run.0 run.1

-- the bytes of a page that is shown; none if it is unmapped
abbrev pub shown_bytes : PageView → Option (List ℕ)
shown_bytes page.Unmapped = None
shown_bytes page.Zero = Some (zeros 4096)
shown_bytes (page.Full bytes) = Some bytes.now
