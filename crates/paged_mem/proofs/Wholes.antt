-- A memory stays one of whole pages of bytes where bytes are written over bytes, and where whole pages come or go.
use Rattle.std.proofs.Common.{◌≡◌, ℕ, ◌+◌, ◌-◌, ◌/◌, ◌%◌, ◌^◌, ◌<◌, ◌≤◌, true, None, Some, is_some, List, length, get_or, All, refl, sym, ap, ◌∙◌, arith, ◌⊎◌, inl, inr}
use Rattle.std.specs.FinMap.{get}
use Rattle.std.proofs.lemmas.Bool.{cases_lt}
use Rattle.std.proofs.lemmas.List.Elements.{All-get_or, All-from_get_or}
use Rattle.std.proofs.lemmas.Option.{none-some, same_Some}
use Rattle.ddc_base.specs.Limits.{address_end}
use Rattle.paged_mem.specs.Memory.{Memory, IsWhole, bytes_at, maps, with_bytes, without}
use Rattle.paged_mem.specs.Inside.Wholeness.{get-with_bytes, get-with_bytes_below, get-with_bytes_above}
use Rattle.paged_mem.proofs.Maps.{each_by_maps, get-without, get-without_other, get_in_bytes_at, length_of_bytes_at}

abbrev AreBytes : List ℕ → Type 0
AreBytes bytes = All (λ byte. byte < 256) bytes

-- bytes written where bytes are keep what is mapped
pub same_after_write : (m : Memory) (at : ℕ) (bytes : List ℕ) → maps m at (length bytes) ≡ true → (q : ℕ) → is_some (get (with_bytes m at bytes) q) ≡ is_some (get m q)
same_after_write m at bytes there q = by_order (cases_lt q at) (cases_lt q (at + length bytes))
  where
    by_order : (q < at) ⊎ (at ≤ q) → (q < at + length bytes) ⊎ (at + length bytes ≤ q) → is_some (get (with_bytes m at bytes) q) ≡ is_some (get m q)
    by_order (inl below) o = ap is_some (get-with_bytes_below m at bytes q below)
    by_order (inr from) (inr above) = ap is_some (get-with_bytes_above m at bytes q above)
    by_order (inr from) (inl to) = ap is_some (get-with_bytes m at bytes q from to) ∙ sym (each_by_maps m at (length bytes) there q from to)

-- bytes that are read are bytes
pub bytes_at-bytes : (m : Memory) (at count : ℕ) (bytes : List ℕ) → IsWhole m → bytes_at m at count ≡ Some bytes → AreBytes bytes
bytes_at-bytes m at count bytes whole there =
    All-from_get_or (λ byte. byte < 256) bytes 0 (λ i less.
    let long = length_of_bytes_at m at count bytes there in
    let here : (at + i) - at ≡ i = omega arith in
    whole.small (at + i) (get_or bytes i 0) (get_in_bytes_at m at count bytes there (at + i) (omega arith) (omega arith) ∙ ap (λ k. Some (get_or bytes k 0)) here))

-- where a byte stands after a write
written_byte : (m : Memory) (at : ℕ) (bytes : List ℕ) (q byte : ℕ) → AreBytes bytes → at ≤ q → q < at + length bytes → get (with_bytes m at bytes) q ≡ Some byte → byte < 256
written_byte m at bytes q byte are from to e =
    let found = same_Some (get_or bytes (q - at) 0) byte (sym (get-with_bytes m at bytes q from to) ∙ e) in
    let small = All-get_or (λ b. b < 256) bytes (q - at) 0 (omega arith) are in
    omega arith

pub whole-written : (m : Memory) (at : ℕ) (bytes : List ℕ) → IsWhole m → maps m at (length bytes) ≡ true → AreBytes bytes → IsWhole (with_bytes m at bytes)
whole-written m at bytes whole there are = record {
  small = λ q byte e. small q byte e (cases_lt q at) (cases_lt q (at + length bytes));
  low = λ q byte e. low q (sym (same_after_write m at bytes there q) ∙ ap is_some e);
  pages = λ q r same. same_after_write m at bytes there q ∙ whole.pages q r same ∙ sym (same_after_write m at bytes there r);
}
  where
    small : (q byte : ℕ) → get (with_bytes m at bytes) q ≡ Some byte → (q < at) ⊎ (at ≤ q) → (q < at + length bytes) ⊎ (at + length bytes ≤ q) → byte < 256
    small q byte e (inl below) o = whole.small q byte (sym (get-with_bytes_below m at bytes q below) ∙ e)
    small q byte e (inr from) (inr above) = whole.small q byte (sym (get-with_bytes_above m at bytes q above) ∙ e)
    small q byte e (inr from) (inl to) = written_byte m at bytes q byte are from to e

    low : (q : ℕ) → is_some (get m q) ≡ true → q < address_end
    low q h = elim (get m q) as (λ o. get m q ≡ o → is_some o ≡ true → q < address_end) [
      | None ↦ λ _ no-byte. absurd (cc)
      | Some byte ↦ λ e _. whole.low q byte e
    ] refl h

pub whole-mapped : (m : Memory) (at : ℕ) (bytes : List ℕ) → IsWhole m → at % 4096 ≡ 0 → length bytes % 4096 ≡ 0 → at + length bytes ≤ address_end → AreBytes bytes → IsWhole (with_bytes m at bytes)
whole-mapped m at bytes whole first size high are = record {
  small = λ q byte e. small q byte e (cases_lt q at) (cases_lt q (at + length bytes));
  low = λ q byte e. low q byte e (cases_lt q at) (cases_lt q (at + length bytes));
  pages = λ q r same. pages q r same (cases_lt q at) (cases_lt q (at + length bytes));
}
  where
    small : (q byte : ℕ) → get (with_bytes m at bytes) q ≡ Some byte → (q < at) ⊎ (at ≤ q) → (q < at + length bytes) ⊎ (at + length bytes ≤ q) → byte < 256
    small q byte e (inl below) o = whole.small q byte (sym (get-with_bytes_below m at bytes q below) ∙ e)
    small q byte e (inr from) (inr above) = whole.small q byte (sym (get-with_bytes_above m at bytes q above) ∙ e)
    small q byte e (inr from) (inl to) = written_byte m at bytes q byte are from to e

    low : (q byte : ℕ) → get (with_bytes m at bytes) q ≡ Some byte → (q < at) ⊎ (at ≤ q) → (q < at + length bytes) ⊎ (at + length bytes ≤ q) → q < address_end
    low q byte e (inl below) o = omega arith
    low q byte e (inr from) (inr above) = whole.low q byte (sym (get-with_bytes_above m at bytes q above) ∙ e)
    low q byte e (inr from) (inl to) = omega arith

    inside : (q : ℕ) → at ≤ q → q < at + length bytes → is_some (get (with_bytes m at bytes) q) ≡ true
    inside q from to = ap is_some (get-with_bytes m at bytes q from to)

    pages : (q r : ℕ) → q / 4096 ≡ r / 4096 → (q < at) ⊎ (at ≤ q) → (q < at + length bytes) ⊎ (at + length bytes ≤ q) → is_some (get (with_bytes m at bytes) q) ≡ is_some (get (with_bytes m at bytes) r)
    pages q r same (inl below) o =
        let too : r < at = omega arith in
        ap is_some (get-with_bytes_below m at bytes q below) ∙ whole.pages q r same ∙ sym (ap is_some (get-with_bytes_below m at bytes r too))
    pages q r same (inr from) (inr above) =
        let too : at + length bytes ≤ r = omega arith in
        ap is_some (get-with_bytes_above m at bytes q above) ∙ whole.pages q r same ∙ sym (ap is_some (get-with_bytes_above m at bytes r too))
    pages q r same (inr from) (inl to) =
        let after : at ≤ r = omega arith in
        let before : r < at + length bytes = omega arith in
        inside q from to ∙ sym (inside r after before)

pub whole-without : (m : Memory) (at count : ℕ) → IsWhole m → at % 4096 ≡ 0 → count % 4096 ≡ 0 → IsWhole (without m at count)
whole-without m at count whole first size = record {
  small = λ q byte e. whole.small q byte (there q byte e (cases_lt q at) (cases_lt q (at + count)));
  low = λ q byte e. whole.low q byte (there q byte e (cases_lt q at) (cases_lt q (at + count)));
  pages = λ q r same. pages q r same (cases_lt q at) (cases_lt q (at + count));
}
  where
    there : (q byte : ℕ) → get (without m at count) q ≡ Some byte → (q < at) ⊎ (at ≤ q) → (q < at + count) ⊎ (at + count ≤ q) → get m q ≡ Some byte
    there q byte e (inl below) o = sym (get-without_other m at count q (inl below)) ∙ e
    there q byte e (inr from) (inr above) = sym (get-without_other m at count q (inr above)) ∙ e
    there q byte e (inr from) (inl to) = absurd (none-some byte (sym (get-without m at count q from to) ∙ e))

    pages : (q r : ℕ) → q / 4096 ≡ r / 4096 → (q < at) ⊎ (at ≤ q) → (q < at + count) ⊎ (at + count ≤ q) → is_some (get (without m at count) q) ≡ is_some (get (without m at count) r)
    pages q r same (inl below) o =
        let too : r < at = omega arith in
        ap is_some (get-without_other m at count q (inl below)) ∙ whole.pages q r same ∙ sym (ap is_some (get-without_other m at count r (inl too)))
    pages q r same (inr from) (inr above) =
        let too : at + count ≤ r = omega arith in
        ap is_some (get-without_other m at count q (inr above)) ∙ whole.pages q r same ∙ sym (ap is_some (get-without_other m at count r (inr too)))
    pages q r same (inr from) (inl to) =
        let after : at ≤ r = omega arith in
        let before : r < at + count = omega arith in
        ap is_some (get-without m at count q from to) ∙ sym (ap is_some (get-without m at count r after before))
