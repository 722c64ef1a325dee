-- The laws of brk, on its definition.
use Rattle.std.proofs.Common.{◌≡◌, ℕ, ◌-◌, ◌<◌, ◌≤◌, Bool, true, false, cond, Some, refl, arith, inl}
use Rattle.std.specs.Prelude.{nat_lt}
use Rattle.std.specs.FinMap.{get}
use borrow.Author.Tests.{ltb-false}
use Rattle.paged_mem.specs.Memory.{Memory, with_bytes, without, zeros}
use Rattle.paged_mem.specs.Inside.Wholeness.{get-with_bytes_below}
use Rattle.paged_mem.proofs.Maps.{get-without_other}
use Rattle.paged_mem.proofs.MemoryLaws.{get-zeros}
use Rattle.linux_calls.specs.HeapOf.{resized}

pub get-resized_below : (m : Memory) (old new address : ℕ) → address < old → address < new → get (resized m old new) address ≡ get m address
get-resized_below m old new address below_old below_new = by_test (nat_lt old new)
  where
    by_test : (t : Bool) → get (cond t (with_bytes m old (zeros (new - old))) (without m new (old - new))) address ≡ get m address
    by_test true = get-with_bytes_below m old (zeros (new - old)) address below_old
    by_test false = get-without_other m new (old - new) address (inl below_new)

pub get-resized_again : (m : Memory) (old new address : ℕ) → new ≤ address → address < old → get (resized (resized m old new) new old) address ≡ Some 0
get-resized_again m old new address from to = by_test (nat_lt new old) refl
  where
    by_test : (t : Bool) → nat_lt new old ≡ t → get (cond t (with_bytes (resized m old new) new (zeros (old - new))) (without (resized m old new) old (new - old))) address ≡ Some 0
    by_test true was = get-zeros (resized m old new) new (old - new) address from (omega arith)
    by_test false was = absurd (omega (arith, ltb-false new old was))
