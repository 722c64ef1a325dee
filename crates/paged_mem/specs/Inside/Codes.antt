-- How the prover stores what contracts see of a memory.
use Rattle.std.proofs.Common.{◌≡◌, ℕ, List}
use Rattle.std.proofs.Props.{props}
use Rattle.std.specs.Coded.{Coded, coded×, coded_ℕ, coded_list}
use Rattle.std.specs.FinMap.{code}
use mathlib.Core.HLevel.{Σ_prop_path}
use base.Stored.{coded_via}
use Rattle.paged_mem.specs.Memory.{Memory, IsWhole}
use Rattle.paged_mem.specs.Held.{Held, PagedMemory}

-- a memory in whole pages is one value: every proof that it is whole is the same
IsWhole-prop : (m : Memory) → IsProp (IsWhole m)
IsWhole-prop m = hlevel props

pub same_held : (a b : Held) → a.bytes ≡ b.bytes → a ≡ b
same_held a b e =
    let pairs : ◌≡◌ {A = (m : Memory) × IsWhole m} (a.bytes, a.whole) (b.bytes, b.whole) = Σ_prop_path IsWhole-prop e in
    λ i. record { bytes = (pairs i).0; whole = (pairs i).1 }

abbrev pub held_code : Coded Held
held_code = coded_via (code coded_ℕ coded_ℕ) (λ held. held.bytes) same_held

pub same_paged : (a b : PagedMemory) → ◌≡◌ {A = Memory × List ℕ} (a.bytes, a.held) (b.bytes, b.held) → a ≡ b
same_paged a b e =
    let pairs : ◌≡◌ {A = (m : Memory) × IsWhole m} (a.bytes, a.whole) (b.bytes, b.whole) = Σ_prop_path IsWhole-prop (λ i. (e i).0) in
    λ i. record { bytes = (pairs i).0; whole = (pairs i).1; held = (e i).1 }

abbrev pub paged_code : Coded PagedMemory
paged_code = coded_via (coded× (code coded_ℕ coded_ℕ) (coded_list coded_ℕ)) (λ paged. (paged.bytes, paged.held)) same_paged
