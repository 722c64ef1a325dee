-- What a `PagedRam` allocates: 4,096 bytes for a page that was written, and nothing for a page that was only mapped.
use Rattle.std.specs.Prelude.{◌≢◌, ℕ, zero, suc, ◌+◌, ◌-◌, ◌*◌, ◌/◌, ◌<◌, ◌≤◌, List, length, slice_index}

-- how many pages hold one or more of the count bytes from an address on
abbrev pub pages_touched : ℕ → ℕ → ℕ
pages_touched at zero = 0
pages_touched at (suc count) = (at + count) / 4096 - at / 4096 + 1

-- one of the pages that hold the count bytes from an address on has no stored bytes
abbrev pub TouchesUnheld : List ℕ → ℕ → ℕ → Type 0
TouchesUnheld held at count =
    (page : ℕ) × (at / 4096 ≤ page) × (4096 * page < at + count) × ((k : ℕ) → k < length held → slice_index held k ≢ page)
