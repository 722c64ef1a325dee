-- The heap in its memory: what a new break asks of the memory, and that the heap's condition stays.
use Rattle.std.proofs.Common.{◌≡◌, ℕ, ◌+◌, ◌-◌, ◌<◌, ◌≤◌, Bool, true, false, cond, Option, None, Some, IsSome, is_some, List, refl, sym, ap, subst, ◌∙◌, arith, ◌⊎◌, inl, inr}
use Rattle.std.specs.Prelude.{⊤}
use Rattle.std.specs.Ordering.{nat_cmp}
use Rattle.std.specs.FinMap.{get, empty, get-empty}
use Rattle.std.proofs.Common.{Result, Ok, Err}
use Rattle.paged_mem.specs.Ram.{Writes}
use Rattle.paged_mem.specs.declared.ram.StoreRefusal.{StoreRefusal}
use Rattle.paged_mem.specs.declared.ram.StoreRefusal.TheVariants.{Unmapped, OutOfMemory}
use Rattle.std.specs.Prelude.{nat_lt}
use Rattle.std.proofs.lemmas.Bool.{cases_lt}
use borrow.Author.Tests.{ltb-true, ltb-false}
use Rattle.paged_mem.specs.Memory.{Memory, IsFree, maps, with_bytes, without, zeros, page_up}
use Rattle.paged_mem.specs.Inside.Wholeness.{get-with_bytes_below, get-with_bytes_above}
use Rattle.paged_mem.proofs.Maps.{get-without, get-without_other, maps_by_each, each_by_maps}
use Rattle.paged_mem.proofs.Mapped.{length-zeros}
use Rattle.paged_mem.proofs.MemoryLaws.{get-zeros}
use Rattle.paged_mem.proofs.Wholes.{same_after_write}
use Rattle.linux_calls.specs.declared.Heap.{Heap}
use Rattle.linux_calls.specs.HeapOf.{IsHeapOf, resized}

-- memory that is mapped at the same addresses holds the same heap
pub IsHeapOf-same : (m n : Memory) (heap : Heap) → ((q : ℕ) → is_some (get n q) ≡ is_some (get m q)) → IsHeapOf m heap → IsHeapOf n heap
IsHeapOf-same m n heap same is = record {
  aligned = is.aligned;
  small = is.small;
  from = is.from;
  to = is.to;
  low = is.low;
  mapped = maps_by_each n heap.first (page_up heap.now - heap.first) (λ q from to. same q ∙ each_by_maps m heap.first (page_up heap.now - heap.first) is.mapped q from to);
  free = λ q from to. gone (get n q) (same q ∙ ap is_some (is.free q from to));
}
  where
    gone : (o : Option ℕ) → is_some o ≡ false → o ≡ None
    gone None e = refl
    gone (Some byte) e = cc

module _ (m : Memory) (heap : Heap) (is : IsHeapOf m heap) (to : ℕ) (from_first : heap.first ≤ to) (to_limit : to ≤ heap.first + heap.limit) where
  pub free_above : page_up heap.now < page_up to → IsFree m (page_up heap.now) (page_up to - page_up heap.now)
  free_above grows q low high = is.free q low (omega (arith, to_limit))

  pub mapped_above : page_up to ≤ page_up heap.now → maps m (page_up to) (page_up heap.now - page_up to) ≡ true
  mapped_above falls = maps_by_each m (page_up to) (page_up heap.now - page_up to) (λ q low high. each_by_maps m heap.first (page_up heap.now - heap.first) is.mapped q (omega (arith, from_first)) (omega (arith, is.from)))

  kept_with : (n : Memory) → ((q : ℕ) → heap.first ≤ q → q < page_up to → IsSome (get n q)) → ((q : ℕ) → page_up to ≤ q → q < page_up (heap.first + heap.limit) → get n q ≡ None) → IsHeapOf n (record heap { now = to })
  kept_with n below above = record {
    aligned = is.aligned;
    small = is.small;
    from = from_first;
    to = to_limit;
    low = is.low;
    mapped = maps_by_each n heap.first (page_up to - heap.first) (λ q low high. below q low (omega (arith, from_first)));
    free = λ q low high. above q low (omega arith);
  }

  pub grown : page_up heap.now < page_up to → IsHeapOf (with_bytes m (page_up heap.now) (zeros (page_up to - page_up heap.now))) (record heap { now = to })
  grown lt = kept_with (with_bytes m (page_up heap.now) (zeros (page_up to - page_up heap.now)))
      (λ q low high. below q low high (cases_lt q (page_up heap.now)))
      (λ q low high. get-with_bytes_above m (page_up heap.now) (zeros (page_up to - page_up heap.now)) q (omega (arith, length-zeros (page_up to - page_up heap.now))) ∙ is.free q (omega arith) (omega arith))
    where
      below : (q : ℕ) → heap.first ≤ q → q < page_up to → (q < page_up heap.now) ⊎ (page_up heap.now ≤ q) → IsSome (get (with_bytes m (page_up heap.now) (zeros (page_up to - page_up heap.now))) q)
      below q low high (inl old) =
          ap is_some (get-with_bytes_below m (page_up heap.now) (zeros (page_up to - page_up heap.now)) q old)
          ∙ each_by_maps m heap.first (page_up heap.now - heap.first) is.mapped q low (omega arith)
      below q low high (inr new) = ap is_some (get-zeros m (page_up heap.now) (page_up to - page_up heap.now) q new (omega arith))

  pub shrunk : page_up to ≤ page_up heap.now → IsHeapOf (without m (page_up to) (page_up heap.now - page_up to)) (record heap { now = to })
  shrunk le = kept_with (without m (page_up to) (page_up heap.now - page_up to))
      (λ q low high. ap is_some (get-without_other m (page_up to) (page_up heap.now - page_up to) q (inl high)) ∙ each_by_maps m heap.first (page_up heap.now - heap.first) is.mapped q low (omega arith))
      (λ q low high. above q low high (cases_lt q (page_up heap.now)))
    where
      above : (q : ℕ) → page_up to ≤ q → q < page_up (heap.first + heap.limit) → (q < page_up heap.now) ⊎ (page_up heap.now ≤ q) → get (without m (page_up to) (page_up heap.now - page_up to)) q ≡ None
      above q low high (inl old) = get-without m (page_up to) (page_up heap.now - page_up to) q low (omega arith)
      above q low high (inr past) = get-without_other m (page_up to) (page_up heap.now - page_up to) q (inr (omega arith)) ∙ is.free q past (omega arith)

  pub kept_resized : IsHeapOf (resized m (page_up heap.now) (page_up to)) (record heap { now = to })
  kept_resized = by_test (nat_lt (page_up heap.now) (page_up to)) refl
    where
      by_test : (t : Bool) → nat_lt (page_up heap.now) (page_up to) ≡ t → IsHeapOf (cond t (with_bytes m (page_up heap.now) (zeros (page_up to - page_up heap.now))) (without m (page_up to) (page_up heap.now - page_up to))) (record heap { now = to })
      by_test true was = grown (ltb-true (page_up heap.now) (page_up to) was)
      by_test false was = shrunk (ltb-false (page_up heap.now) (page_up to) was)

-- a write, whatever it answers, keeps the heap
pub IsHeapOf-writes : (m n : Memory) (at : ℕ) (bytes : List ℕ) (heap : Heap) (r : Result ⊤ StoreRefusal) → Writes m at bytes r n → IsHeapOf m heap → IsHeapOf n heap
IsHeapOf-writes m n at bytes heap (Ok done) writes is =
    subst (λ n. IsHeapOf n heap) (sym writes.1) (IsHeapOf-same m (with_bytes m at bytes) heap (same_after_write m at bytes writes.0) is)
IsHeapOf-writes m n at bytes heap (Err Unmapped) writes is = subst (λ n. IsHeapOf n heap) (sym writes.1) is
IsHeapOf-writes m n at bytes heap (Err OutOfMemory) writes is = subst (λ n. IsHeapOf n heap) (sym writes.1) is

-- an empty heap above two pages
pub IsHeapOf-fresh : (m : Memory) → m ≡ with_bytes empty 65536 (zeros 8192) → IsHeapOf m (record { first = 131072; now = 131072; limit = 65536 })
IsHeapOf-fresh m e = record {
  aligned = refl;
  small = omega arith;
  from = omega arith;
  to = omega arith;
  low = omega arith;
  mapped = maps_by_each m 131072 0 (λ q low high. absurd (omega arith));
  free = λ q low high.
      ap (λ m. get m q) e
      ∙ get-with_bytes_above empty 65536 (zeros 8192) q (omega (arith, length-zeros 8192))
      ∙ get-empty nat_cmp q;
}
