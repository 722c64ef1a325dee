-- The guest's memory as contracts see it, a finite map from mapped addresses to bytes (docs/reference/memory.md).
-- Addresses are plain numbers that do not wrap: none at or past 2 ^ 64 is ever mapped.
use Rattle.std.specs.Prelude.{◌≡◌, ℕ, zero, suc, ◌+◌, ◌*◌, ◌/◌, ◌%◌, ◌^◌, ◌<◌, ◌≤◌, Bool, not, ◌&&◌, nat_le, nat_lt, Option, None, Some, is_some, List, [], ◌∷◌, replicate}
use Rattle.std.specs.Ordering.{nat_cmp}
use Rattle.std.specs.Option.{option_map}
use Rattle.std.specs.FinMap.{FinMap, get, contains_key, insert, retain_keys}
use Rattle.ddc_base.specs.Limits.{address_end}

-- the byte at each mapped address
abbrev pub Memory : Type 0
Memory = FinMap nat_cmp ℕ

-- the size of a page in bytes (docs/reference/memory.md)
abbrev pub page_size : ℕ
page_size = 4096

-- the first multiple of the page size that is not below `n`
abbrev pub page_up : ℕ → ℕ
page_up n = (n + 4095) / 4096 * 4096

-- mapped addresses are whole pages of 4,096 bytes below `address_end`, and each holds a byte
pub record IsWhole (m : Memory) : Type 0 where
  pub small : (at byte : ℕ) → get m at ≡ Some byte → byte < 256
  pub low : (at byte : ℕ) → get m at ≡ Some byte → at < address_end
  pub pages : (at other : ℕ) → at / 4096 ≡ other / 4096 → contains_key m at ≡ contains_key m other

-- a byte followed by the rest, if both are there
abbrev pub prepended : Option ℕ → Option (List ℕ) → Option (List ℕ)
prepended None rest = None
prepended (Some byte) rest = option_map (λ bytes. byte ∷ bytes) rest

-- the count bytes from an address on, or none if one of them is unmapped
unfoldable pub bytes_at : Memory → ℕ → ℕ → Option (List ℕ)
bytes_at m at zero = Some []
bytes_at m at (suc count) = prepended (get m at) (bytes_at m (suc at) count)

-- whether the count bytes from an address on are all mapped
abbrev pub maps : Memory → ℕ → ℕ → Bool
maps m at count = is_some (bytes_at m at count)

-- none of the count addresses from this one on is mapped
abbrev pub IsFree : Memory → ℕ → ℕ → Type 0
IsFree m at count = (address : ℕ) → at ≤ address → address < at + count → get m address ≡ None

-- the memory with these bytes from an address on
unfoldable pub with_bytes : Memory → ℕ → List ℕ → Memory
with_bytes m at [] = m
with_bytes m at (byte ∷ bytes) = insert (with_bytes m (suc at) bytes) at byte

-- the memory without the count addresses from this one on
unfoldable pub without : Memory → ℕ → ℕ → Memory
without m at count = retain_keys m (λ address. not (nat_le at address && nat_lt address (at + count)))

-- count zero bytes
unfoldable pub zeros : ℕ → List ℕ
zeros count = replicate count 0

-- the number that these bytes are, lowest byte first
unfoldable pub number_of : List ℕ → ℕ
number_of [] = 0
number_of (byte ∷ bytes) = byte + 256 * number_of bytes

-- the low count bytes of a number, lowest byte first
unfoldable pub bytes_of : ℕ → ℕ → List ℕ
bytes_of zero value = []
bytes_of (suc count) value = value % 256 ∷ bytes_of count (value / 256)

-- the little-endian number of the count bytes from an address on, or none if one of them is unmapped
abbrev pub reads : Memory → ℕ → ℕ → Option ℕ
reads m at count = option_map number_of (bytes_at m at count)

-- the memory with the low count bytes of a number, little-endian, from an address on
abbrev pub writes : Memory → ℕ → ℕ → ℕ → Memory
writes m at count value = with_bytes m at (bytes_of count value)
