-- What a call keeps of the heap and of what is mapped beside it.
use Rattle.std.proofs.Common.{◌≡◌, ℕ, ◌+◌, ◌-◌, ◌%◌, ◌<◌, ◌≤◌, ◌==◌, Bool, true, false, cond, Option, None, Some, is_some, List, length, refl, ap, arith, ◌⊎◌, inl, inr, Result, Ok, Err}
use Rattle.std.specs.Prelude.{nat_lt, slice_index}
use Rattle.std.specs.FinMap.{get}
use Rattle.std.proofs.lemmas.Bool.{cases_lt}
use Rattle.std.proofs.lemmas.Bool.Decides.{nat_tests}
use Rattle.ddc_base.specs.Results.{◌>>=◌}
use Rattle.ddc_base.proofs.Results.{Yields, bound, tested}
use Rattle.ddc_base.proofs.Results.{chosen as either}
use Rattle.paged_mem.specs.Memory.{Memory, maps, with_bytes, without, zeros, page_up}
use Rattle.paged_mem.specs.Inside.Wholeness.{get-with_bytes_below, get-with_bytes_above}
use Rattle.paged_mem.proofs.Mapped.{length-zeros}
use Rattle.paged_mem.proofs.Maps.{get-without_other}
use Rattle.mem_files.specs.World.{World}
use Rattle.mem_files.specs.Calls.{ready}
use Rattle.linux_calls.specs.declared.Heap.{Heap}
use Rattle.linux_calls.specs.HeapOf.{is_apart_from_heap, is_outside, IsHeapOf, resized}
use Rattle.linux_calls.specs.Calls.{CallOutcome, CallState, or_same_state, moved_break, read_at, syscall}
use Rattle.linux_calls.specs.Calls as call
use Rattle.linux_calls.specs.Paths.{low}
use Rattle.linux_calls.specs.Linux.{efault, sys_unlinkat, sys_faccessat, sys_fchmodat, sys_openat, sys_close, sys_lseek, sys_read, sys_write, sys_exit, sys_exit_group, sys_brk}
use Rattle.paged_mem.proofs.Wholes.{same_after_write}
use Rattle.linux_calls.proofs.Heaps.{IsHeapOf-same, kept_resized}

-- what a call leaves: the heap's place and limit, its pages, and what is mapped beside it
pub record Keeps (old new : CallState) : Type 0 where
  pub first : new.heap.first ≡ old.heap.first
  pub limit : new.heap.limit ≡ old.heap.limit
  pub heap_of : IsHeapOf new.memory new.heap
  pub clear : (q : ℕ) → is_apart_from_heap old.heap q ≡ true → is_some (get new.memory q) ≡ is_some (get old.memory q)

abbrev pub OutcomeKeeps : CallState → CallOutcome → Type 0
OutcomeKeeps old (call.goes answer new) = Keeps old new
OutcomeKeeps old (call.exits status) = Unit {0}
OutcomeKeeps old (call.is_unknown number) = Unit {0}

-- the same, as a record: what it speaks of is found from the goal
record Kept (old : CallState) (meant : CallOutcome) : Type 0 where
  is : OutcomeKeeps old meant

-- where both choices keep, so does a choice
chosen : (s : CallState) (b : Bool) (x y : CallOutcome) → Kept s x → Kept s y → Kept s (cond b x y)
chosen s true x y kx ky = kx
chosen s false x y kx ky = ky

-- other files
files_alone : (s : CallState) (files : World) (answer : Result ℕ ℕ) → IsHeapOf s.memory s.heap → Kept s (call.goes answer (record s { files = files }))
files_alone s files answer is = record { is = record { first = refl; limit = refl; heap_of = is; clear = λ q apart. refl } }

nothing : (s : CallState) (answer : Result ℕ ℕ) → IsHeapOf s.memory s.heap → Kept s (call.goes answer s)
nothing s answer is = record { is = record { first = refl; limit = refl; heap_of = is; clear = λ q apart. refl } }

-- read moves bytes to where bytes are
same_state_keeps : (s : CallState) (reading : Result (ℕ × CallState) ℕ) → IsHeapOf s.memory s.heap → Yields (λ done. Keeps s done.1) reading → Kept s (or_same_state s reading)
same_state_keeps s (Ok done) is keeps = record { is = keeps.is }
same_state_keeps s (Err errno) is keeps = nothing s _ is

read_keeps : (s : CallState) (fd buffer count : ℕ) → IsHeapOf s.memory s.heap → Kept s (or_same_state s (read_at s fd buffer count))
read_keeps s fd buffer count is =
    same_state_keeps s _ is
    (bound (ready s.files fd count) _ (λ bytes given.
    either (length bytes == 0) _ _ (λ none. record { is = record { first = refl; limit = refl; heap_of = is; clear = λ q apart. refl } })
    (tested efault (maps s.memory buffer (length bytes)) _
    (λ there. record {
      is = record {
        first = refl;
        limit = refl;
        heap_of = IsHeapOf-same s.memory (with_bytes s.memory buffer bytes) s.heap (same_after_write s.memory buffer bytes there) is;
        clear = λ q apart. same_after_write s.memory buffer bytes there q;
      };
    }))))

-- brk moves the end of the heap's pages within what it may have
pub inside : (heap : Heap) (to : ℕ) → is_outside heap to ≡ false → (heap.first ≤ to) × (to ≤ heap.first + heap.limit)
inside heap to is = (grind (arith, nat_tests), grind (arith, nat_tests))

apart_is : (heap : Heap) (q : ℕ) → is_apart_from_heap heap q ≡ true → (q < heap.first) ⊎ (page_up (heap.first + heap.limit) ≤ q)
apart_is heap q is =
    elim (cases_lt q heap.first) [
      | inl below ↦ inl below
      | inr from ↦ inr (grind (arith, nat_tests))
    ]

resized_apart : (m : Memory) (heap : Heap) (to q : ℕ) → IsHeapOf m heap → heap.first ≤ to → to ≤ heap.first + heap.limit
    → (q < heap.first) ⊎ (page_up (heap.first + heap.limit) ≤ q)
    → get (resized m (page_up heap.now) (page_up to)) q ≡ get m q
resized_apart m heap to q is from high apart =
    let cases : (b : Bool) → nat_lt (page_up heap.now) (page_up to) ≡ b
    → get (cond b (with_bytes m (page_up heap.now) (zeros (page_up to - page_up heap.now))) (without m (page_up to) (page_up heap.now - page_up to))) q ≡ get m q =
    λ b. elim b as (λ v. nat_lt (page_up heap.now) (page_up to) ≡ v
    → get (cond v (with_bytes m (page_up heap.now) (zeros (page_up to - page_up heap.now))) (without m (page_up to) (page_up heap.now - page_up to))) q ≡ get m q) [
      | true ↦ (λ grows. elim apart [
        | inl below ↦ get-with_bytes_below m (page_up heap.now) (zeros (page_up to - page_up heap.now)) q (omega (arith, is.from))
        | inr above ↦ get-with_bytes_above m (page_up heap.now) (zeros (page_up to - page_up heap.now)) q
            (let size = length-zeros (page_up to - page_up heap.now) in omega (arith, is.to))
      ])
      | false ↦ (λ falls. elim apart [
        | inl below ↦ get-without_other m (page_up to) (page_up heap.now - page_up to) q (inl (omega arith))
        | inr above ↦ get-without_other m (page_up to) (page_up heap.now - page_up to) q (inr (omega (arith, is.to)))
      ])
    ] in
    cases (nat_lt (page_up heap.now) (page_up to)) refl

break_keeps : (s : CallState) (to : ℕ) → IsHeapOf s.memory s.heap → Kept s (moved_break s to)
break_keeps s to is =
    let P : Bool → Type 0 = λ v. Keeps s (record s {
      memory = cond v s.memory (resized s.memory (page_up s.heap.now) (page_up to));
      heap = cond v s.heap (record s.heap { now = to });
    }) in
    let cases : (b : Bool) → is_outside s.heap to ≡ b → P b =
    λ b. elim b as (λ v. is_outside s.heap to ≡ v → P v) [
      | true ↦ (λ was. record { first = refl; limit = refl; heap_of = is; clear = λ q apart. refl })
      | false ↦ (λ was. record {
        first = refl;
        limit = refl;
        heap_of = kept_resized s.memory s.heap is to ((inside s.heap to was).0) ((inside s.heap to was).1);
        clear = λ q apart. ap is_some (resized_apart s.memory s.heap to q is ((inside s.heap to was).0) ((inside s.heap to was).1) (apart_is s.heap q apart));
      })
    ] in
    record { is = cases (is_outside s.heap to) refl }

-- a call that ends the run keeps, since it leaves the state
ends_run : (s : CallState) (status : ℕ) → Kept s (call.exits status)
ends_run s status = record { is = tt }

is_none : (s : CallState) (number : ℕ) → Kept s (call.is_unknown number)
is_none s number = record { is = tt }

-- every call keeps
kept : (number : ℕ) (a : List ℕ) (s : CallState) → IsHeapOf s.memory s.heap → Kept s (syscall number a s)
kept number a s is =
    chosen s (number == sys_unlinkat) _ _ (files_alone s _ _ is)
    (chosen s (number == sys_faccessat) _ _ (files_alone s _ _ is)
    (chosen s (number == sys_fchmodat) _ _ (files_alone s _ _ is)
    (chosen s (number == sys_openat) _ _ (files_alone s _ _ is)
    (chosen s (number == sys_close) _ _ (files_alone s _ _ is)
    (chosen s (number == sys_lseek) _ _ (files_alone s _ _ is)
    (chosen s (number == sys_read) _ _ (read_keeps s (low (slice_index a 0)) (slice_index a 1) (slice_index a 2) is)
    (chosen s (number == sys_write) _ _ (files_alone s _ _ is)
    (chosen s (number == sys_exit) _ _ (ends_run s (slice_index a 0 % 256))
    (chosen s (number == sys_exit_group) _ _ (ends_run s (slice_index a 0 % 256))
    (chosen s (number == sys_brk) _ _ (break_keeps s (slice_index a 0) is) (is_none s number)))))))))))

pub call_keeps : (number : ℕ) (a : List ℕ) (s : CallState) → IsHeapOf s.memory s.heap → OutcomeKeeps s (syscall number a s)
call_keeps number a s is = (kept number a s is).is
