-- What contracts see of a `FlatRam` and of a `PagedRam`: a memory in whole pages and, of a `PagedRam`, which pages have stored bytes.
use Rattle.std.specs.Prelude.{ℕ, List}
use Rattle.paged_mem.specs.Memory.{Memory, IsWhole}

-- a memory, with the proof that it is whole
pub record Held : Type 0 where
  pub bytes : Memory
  pub whole : IsWhole bytes

-- a memory, and the numbers of the pages that have stored bytes
pub record PagedMemory : Type 0 where
  pub bytes : Memory
  pub whole : IsWhole bytes
  pub held : List ℕ
