-- The laws of a memory, on its definitions.
use Rattle.std.proofs.Common.{◌≡◌, ℕ, zero, suc, ◌+◌, ◌-◌, ◌*◌, ◌/◌, ◌%◌, ◌^◌, ◌<◌, ◌≤◌, true, false, Option, None, Some, is_some, List, length, refl, sym, ap, ◌∙◌, arith, ◌⊎◌, inl, inr}
use Rattle.std.specs.Option.{option_map}
use Rattle.std.specs.FinMap.{get}
use Rattle.std.proofs.lemmas.Bool.{cases_lt}
use Rattle.std.proofs.Math.Nat.{pow-suc, one-le-pow}
use Rattle.std.proofs.Math.Arith.{mod-mul}
use Rattle.ddc_base.specs.Limits.{address_end}
use Rattle.paged_mem.specs.Memory.{Memory, IsWhole, IsFree, maps, bytes_at, reads, writes, with_bytes, without, zeros, number_of, bytes_of}
use Rattle.paged_mem.specs.Inside.Wholeness.{get-with_bytes, get-with_bytes_below, get-with_bytes_above}
use Rattle.paged_mem.proofs.Maps.{same_memory, get-without, get-without_other, bytes_at-found, bytes_at-none}
use Rattle.paged_mem.proofs.Numbers.{length-bytes_of}
use Rattle.paged_mem.proofs.Mapped.{length-zeros, get_or-zeros}

pub get-writes_other : (m : Memory) (at count value address : ℕ) → (address < at) ⊎ (at + count ≤ address) → get (writes m at count value) address ≡ get m address
get-writes_other m at count value address (inl below) = get-with_bytes_below m at (bytes_of count value) address below
get-writes_other m at count value address (inr above) = get-with_bytes_above m at (bytes_of count value) address (omega (arith, length-bytes_of count value))

pub bytes_at-with_bytes : (m : Memory) (at : ℕ) (bytes : List ℕ) → bytes_at (with_bytes m at bytes) at (length bytes) ≡ Some bytes
bytes_at-with_bytes m at bytes = bytes_at-found (with_bytes m at bytes) at bytes (λ q from to. get-with_bytes m at bytes q from to)

digits : (value power next : ℕ) → 1 ≤ power → next ≡ power * 256 → value % 256 + 256 * (value / 256 % power) ≡ value % next
digits value power next some e =
    let low : zero < 256 = omega arith in
    let all = mod-mul value {m = power} {c = 256} some low in
    omega (arith, all, ap (λ n. value % n) e)

number_of-bytes_of : (count value : ℕ) → number_of (bytes_of count value) ≡ value % 256 ^ count
unfolding number_of bytes_of
number_of-bytes_of zero value = let one : 0 ≡ value % 256 ^ 0 = omega arith in one
number_of-bytes_of (suc count) value = ap (λ n. value % 256 + 256 * n) (number_of-bytes_of count (value / 256)) ∙ digits value (256 ^ count) (256 ^ suc count) (one-le-pow count 256 (omega arith)) (pow-suc 256 count)

pub reads-writes : (m : Memory) (at count value : ℕ) → reads (writes m at count value) at count ≡ Some (value % 256 ^ count)
reads-writes m at count value =
    ap (λ n. reads (writes m at count value) at n) (sym (length-bytes_of count value))
    ∙ ap (option_map number_of) (bytes_at-with_bytes m at (bytes_of count value))
    ∙ ap Some (number_of-bytes_of count value)

pub get-past : (m : Memory) → IsWhole m → (at : ℕ) → address_end ≤ at → get m at ≡ None
get-past m whole at past = gone (get m at) refl
  where
    gone : (o : Option ℕ) → get m at ≡ o → o ≡ None
    gone None was = refl
    gone (Some byte) was = absurd (omega (arith, whole.low at byte was))

pub maps-past : (m : Memory) → IsWhole m → (at count : ℕ) → 0 < count → 2 ^ 64 < at + count → maps m at count ≡ false
maps-past m whole at count some past =
    ap is_some (bytes_at-none m at count (at + (count - 1)) (omega arith) (omega arith) (get-past m whole (at + (count - 1)) (omega arith)))

pub maps-zeros : (m : Memory) (first count : ℕ) → maps (with_bytes m first (zeros count)) first count ≡ true
maps-zeros m first count =
    ap (λ n. maps (with_bytes m first (zeros count)) first n) (sym (length-zeros count)) ∙ ap is_some (bytes_at-with_bytes m first (zeros count))

pub get-zeros : (m : Memory) (first count address : ℕ) → first ≤ address → address < first + count → get (with_bytes m first (zeros count)) address ≡ Some 0
get-zeros m first count address from to =
    get-with_bytes m first (zeros count) address from (omega (arith, length-zeros count)) ∙ ap Some (get_or-zeros count (address - first) (omega arith))

pub without-zeros : (m : Memory) (first count : ℕ) → IsFree m first count → without (with_bytes m first (zeros count)) first count ≡ m
without-zeros m first count free = same_memory (without (with_bytes m first (zeros count)) first count) m (λ q. at q (cases_lt q first) (cases_lt q (first + count)))
  where
    at : (q : ℕ) → (q < first) ⊎ (first ≤ q) → (q < first + count) ⊎ (first + count ≤ q) → get (without (with_bytes m first (zeros count)) first count) q ≡ get m q
    at q (inl below) o = get-without_other (with_bytes m first (zeros count)) first count q (inl below) ∙ get-with_bytes_below m first (zeros count) q below
    at q (inr from) (inr above) = get-without_other (with_bytes m first (zeros count)) first count q (inr above) ∙ get-with_bytes_above m first (zeros count) q (omega (arith, length-zeros count))
    at q (inr from) (inl to) = get-without (with_bytes m first (zeros count)) first count q from to ∙ sym (free q from to)
