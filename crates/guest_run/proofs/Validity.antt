-- Steps keep a state valid.
use Rattle.std.proofs.Common.{◌≡◌, ◌<◌, ℕ, zero, suc, ◌+◌, ◌-◌, ◌*◌, ◌^◌, ◌≤◌, Bool, true, false, ◌&&◌, ◌||◌, Some, refl, ap, ◌∙◌, subst, arith}
use Rattle.std.specs.Prelude.{count_by, nat_le, nat_lt}
use Rattle.std.specs.FinMap.{contains_key}
use Rattle.std.proofs.lemmas.Bool.Decides.{nat_tests}
use Rattle.ddc_base.specs.Limits.{page_number_end, stack_size}
use Rattle.paged_mem.specs.Memory.{Memory, page_up}
use Rattle.paged_mem.proofs.Maps.{each_by_maps, maps_by_each}
use Rattle.rv64_machine.specs.Hart.{Act, IsHart, act}
use Rattle.rv64_machine.specs.Hart as hart
use Rattle.linux_calls.specs.declared.Heap.{Heap}
use Rattle.linux_calls.specs.HeapOf.{IsHeapOf, is_apart_from_heap}
use Rattle.linux_calls.specs.Calls.{CallOutcome, CallState, answer_of, state}
use Rattle.linux_calls.specs.Rules.{IsState, LeavesNumber, LeavesState}
use Rattle.linux_calls.specs.Calls as call
use Rattle.linux_calls.proofs.Heaps.{IsHeapOf-same}
use Rattle.linux_calls.proofs.StateLaw.{syscall-state}
use Rattle.linux_calls.proofs.SmallAnswers.{syscall-small}
use Rattle.guest_run.specs.Stack.{stack_end}
use Rattle.guest_run.specs.State.{GuestState}
use Rattle.guest_run.specs.Valid.{Fits, IsValid, pages_apart, pages_from}
use Rattle.guest_run.specs.Run.{End, Exited, Trapped, UnknownCall, Next, Goes, Ends, after, step_of_act, step_of_call, next, outcome_of, call_number, call_arguments}
use Rattle.rv64_machine.proofs.ActLemmas.{act-mapping}
use Rattle.std.proofs.lemmas.Option.{same_Some}
use Rattle.linux_calls.proofs.Keeping.{call_keeps, OutcomeKeeps}
use Rattle.guest_run.proofs.Running.{before}
use Rattle.rv64_machine.proofs.Keeping.{act-hart, answered-hart}
use Rattle.rv64_machine.proofs.Numbers.{act-numbers, answered-numbers}

-- heaps at one place with one limit have the same pages beside them
same_apart : (one other : Heap) (q : ℕ) → other.first ≡ one.first → other.limit ≡ one.limit → is_apart_from_heap other q ≡ is_apart_from_heap one q
same_apart one other q first limit = λ i. nat_lt q (first i) || nat_le (page_up (first i + limit i)) q

-- what is mapped beside the heap is what counts
same_pages : (m n : Memory) (one other : Heap) → other.first ≡ one.first → other.limit ≡ one.limit
    → ((q : ℕ) → is_apart_from_heap one q ≡ true → contains_key n q ≡ contains_key m q) → pages_apart n other ≡ pages_apart m one
unfolding pages_apart
same_pages m n one other first limit same =
    let each : (page : ℕ) → (contains_key n (4096 * page) && is_apart_from_heap other (4096 * page)) ≡ (contains_key m (4096 * page) && is_apart_from_heap one (4096 * page)) =
    λ page. at (is_apart_from_heap one (4096 * page)) refl page in
    λ i. count_by (λ page. each page i) (pages_from 0 page_number_end)
  where
    both : (a b c : Bool) → (b ≡ true → a ≡ c) → (a && b) ≡ (c && b)
    both a true c eq = ap (λ x. x && true) (eq refl)
    both true false true eq = refl
    both true false false eq = refl
    both false false true eq = refl
    both false false false eq = refl

    at : (b : Bool) → b ≡ b → (page : ℕ) → (contains_key n (4096 * page) && is_apart_from_heap other (4096 * page)) ≡ (contains_key m (4096 * page) && is_apart_from_heap one (4096 * page))
    at b e page =
        ap (λ x. contains_key n (4096 * page) && x) (same_apart one other (4096 * page) first limit)
        ∙ both (contains_key n (4096 * page)) (is_apart_from_heap one (4096 * page)) (contains_key m (4096 * page)) (same (4096 * page))

-- the stack lies beside the heap
stack_apart : (m : Memory) (heap : Heap) (q : ℕ) → IsHeapOf m heap → stack_end - stack_size ≤ q → is_apart_from_heap heap q ≡ true
stack_apart m heap q is from =
    let low = is.low in
    let whole : page_up (heap.first + heap.limit) ≤ q = omega arith in
    grind (arith, nat_tests)

-- a memory that is mapped alike beside its heap fits it too
pub fits_too : (m n : Memory) (one other : Heap) → Fits m one → other.first ≡ one.first → other.limit ≡ one.limit → IsHeapOf n other
    → ((q : ℕ) → is_apart_from_heap one q ≡ true → contains_key n q ≡ contains_key m q) → Fits n other
fits_too m n one other fits first limit heap_of same = record {
  heap_of = heap_of;
  stack = maps_by_each n (stack_end - stack_size) stack_size
      (λ q from to. same q (stack_apart m one q fits.heap_of from) ∙ each_by_maps m (stack_end - stack_size) stack_size fits.stack q from to);
  few = let pages = same_pages m n one other first limit same in let few = fits.few in omega arith;
}

-- a program exits with a status of 8 bits
abbrev pub IsByteEnd : End → Type 0
IsByteEnd (Exited status) = status < 256
IsByteEnd (Trapped cause) = Unit {0}
IsByteEnd (UnknownCall number) = Unit {0}

-- the state in which a step goes on is valid
abbrev ValidIn : Next → Type 0
ValidIn (Goes guest) = IsValid guest
ValidIn (Ends end) = IsByteEnd end

valid_after_call : (guest : GuestState) (meant : CallOutcome) → IsValid guest → LeavesState meant → LeavesNumber meant
    → OutcomeKeeps (state guest.hart.memory guest.world guest.heap) meant → ValidIn (step_of_call guest meant)
valid_after_call guest (call.goes answer left) valid leaves number keeps =
    let hart = valid.hart in
    let moved : IsHart (record guest.hart { memory = left.memory }) =
    record { count = hart.count; zero = hart.zero; aligned = hart.aligned; whole = leaves.memory; reserved = hart.reserved } in
    record {
      hart = answered-hart (record guest.hart { memory = left.memory }) (answer_of answer) moved;
      numbers = answered-numbers (record guest.hart { memory = left.memory }) (answer_of answer) number (record { registers = valid.numbers.registers; pc = valid.numbers.pc });
      fits = fits_too guest.hart.memory left.memory guest.heap left.heap valid.fits keeps.first keeps.limit keeps.heap_of keeps.clear;
      files = leaves.files;
    }
valid_after_call guest (call.exits status) valid leaves number keeps = number
valid_after_call guest (call.is_unknown n) valid leaves number keeps = tt

valid_after : (guest : GuestState) (an_act : Act) → act guest.hart ≡ an_act → IsValid guest → ValidIn (step_of_act guest an_act)
valid_after guest (hart.GoesOn to) is valid = record {
  hart = act-hart guest.hart to valid.hart is;
  numbers = act-numbers guest.hart to valid.hart.whole valid.numbers is;
  fits = fits_too guest.hart.memory to.memory guest.heap guest.heap valid.fits refl refl
      (IsHeapOf-same guest.hart.memory to.memory guest.heap (act-mapping guest.hart to is) valid.fits.heap_of) (λ q apart. act-mapping guest.hart to is q);
  files = valid.files;
}
valid_after guest hart.Calls is valid =
    let before : CallState = state guest.hart.memory guest.world guest.heap in
    let order : IsState before = record { memory = valid.hart.whole; files = valid.files; heap = valid.fits.heap_of } in
    valid_after_call guest (outcome_of guest) valid
    (syscall-state (call_number guest) (call_arguments guest) before order) (syscall-small (call_number guest) (call_arguments guest) before order)
    (call_keeps (call_number guest) (call_arguments guest) before valid.fits.heap_of)
valid_after guest (hart.Traps cause) is valid = tt

next-valid : (guest to : GuestState) → IsValid guest → next guest ≡ Goes to → IsValid to
unfolding next
next-valid guest to valid is = subst ValidIn is (valid_after guest (act guest.hart) refl valid)

pub end-byte : (guest : GuestState) (end : End) → IsValid guest → next guest ≡ Ends end → IsByteEnd end
unfolding next
end-byte guest end valid is = subst ValidIn is (valid_after guest (act guest.hart) refl valid)

pub after-valid : (guest to : GuestState) (count : ℕ) → IsValid guest → after guest count ≡ Some to → IsValid to
unfolding after
after-valid guest to zero valid is = subst IsValid (same_Some guest to is) valid
after-valid guest to (suc count) valid is =
    let earlier = before guest to count is in
    next-valid earlier.0 to (after-valid guest earlier.0 count valid earlier.1) earlier.2
