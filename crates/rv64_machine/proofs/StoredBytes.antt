-- A store maps and unmaps nothing.
use Rattle.std.proofs.Common.{◌≡◌, ℕ, ◌+◌, true, Option, Some, None, is_some, List, refl, sym, ap, ◌∙◌, arith, inl, inr}
use Rattle.std.specs.FinMap.{contains_key}
use Rattle.std.proofs.lemmas.Bool.{cases_lt, false≢true}
use Rattle.paged_mem.proofs.Maps.{get_in_bytes_at}
use Rattle.paged_mem.proofs.Numbers.{length-bytes_of}
use Rattle.paged_mem.specs.Inside.Wholeness.{get-with_bytes, get-with_bytes_above, get-with_bytes_below}
use Rattle.paged_mem.specs.Memory.{Memory, bytes_at, bytes_of, maps, writes}

pub ruleset stored = (length-bytes_of)

-- an option that passes the test holds a value
some_from_test : (o : Option (List ℕ)) → is_some o ≡ true → (bytes : List ℕ) × (o ≡ Some bytes)
some_from_test None test = absurd (false≢true test)
some_from_test (Some bytes) test = (bytes, refl)

pub contains_key-writes : (m : Memory) (at count value address : ℕ) → maps m at count ≡ true
    → contains_key (writes m at count value) address ≡ contains_key m address
contains_key-writes m at count value address mapped =
    let bytes = bytes_of count value in
    let long = length-bytes_of count value in
    let (old, there) = some_from_test (bytes_at m at count) mapped in
    elim (cases_lt address at) [
      | inl below ↦ ap is_some (get-with_bytes_below m at bytes address below)
      | inr from ↦ elim (cases_lt address (at + count)) [
        | inl within ↦
            ap is_some (get-with_bytes m at bytes address from (omega (arith, long)))
            ∙ sym (ap is_some (get_in_bytes_at m at count old there address from within))
        | inr above ↦ ap is_some (get-with_bytes_above m at bytes address (omega (arith, long)))
      ]
    ]
