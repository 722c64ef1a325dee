-- One step of a guest, by what its hart's act and its call come to.
use Rattle.std.proofs.Common.{◌≡◌, ℕ, ◌+◌, true, false, List, refl, sym, ap, subst}
use Rattle.std.specs.Prelude.{IsTrue}
use Rattle.paged_mem.specs.Memory.{Memory}
use Rattle.rv64_machine.specs.Hart.{Act, HartState, act, goes_on}
use Rattle.rv64_machine.specs.Hart as hart
use Rattle.rv64_machine.specs.declared.answer.Cause.{Cause}
use Rattle.linux_calls.specs.declared.CallEnd.{CallEnd}
use Rattle.linux_calls.specs.declared.CallEnd.TheVariants.{Back, Exit, Unknown}
use Rattle.linux_calls.specs.declared.CallEnd.TheVariants as end
use Rattle.linux_calls.specs.Answer.{IsAnswer}
use Rattle.linux_calls.specs.Calls.{CallOutcome, CallState, state, syscall}
use Rattle.linux_calls.specs.Calls as call
use Rattle.guest_run.specs.State.{GuestState, guest_state}
use Rattle.guest_run.specs.Run.{Exited, Trapped, UnknownCall, Next, Goes, Ends, step_of_act, step_of_call, answered, call_arguments, call_number, CallTakesMemory, step_goes_on, next, outcome_of}

-- the step, by the act
pub next-goes : (guest : GuestState) (to : HartState) → act guest.hart ≡ hart.GoesOn to
    → next guest ≡ Goes (record guest { hart = to; steps = guest.steps + 1 })
unfolding next
next-goes guest to is = ap (step_of_act guest) is

pub next-calls : (guest : GuestState) → act guest.hart ≡ hart.Calls → next guest ≡ step_of_call guest (outcome_of guest)
unfolding next
next-calls guest is = ap (step_of_act guest) is

pub next-traps : (guest : GuestState) (cause : Cause) → act guest.hart ≡ hart.Traps cause → next guest ≡ Ends (Trapped cause)
unfolding next
next-traps guest cause is = ap (step_of_act guest) is

-- a call's answer at the registers and the memory of the guest
pub at_guest : (guest : GuestState) (left : CallState) (answer : CallEnd) (number : ℕ) (arguments : List ℕ) (memory : Memory)
    → number ≡ call_number guest → arguments ≡ call_arguments guest → memory ≡ guest.hart.memory
    → IsAnswer number (state memory guest.world guest.heap) left (syscall number arguments (state memory guest.world guest.heap)) answer
    → IsAnswer (call_number guest) (state guest.hart.memory guest.world guest.heap) left (outcome_of guest) answer
at_guest guest left answer number arguments memory same-number same-arguments same-memory is =
    let P : ℕ × List ℕ × Memory → Type 0 =
    λ p. IsAnswer p.0 (state p.2 guest.world guest.heap) left (syscall p.0 p.1 (state p.2 guest.world guest.heap)) answer in
    let same : ◌≡◌ {A = ℕ × List ℕ × Memory} (number, arguments, memory) (call_number guest, call_arguments guest, guest.hart.memory) =
    λ i. (same-number i, same-arguments i, same-memory i) in
    subst P same is

-- what the guest's step comes to, by the call's answer
pub goes_back : (guest : GuestState) (meant : CallOutcome) (number value : ℕ) (old left : CallState) → IsAnswer number old left meant (Back value)
    → step_of_call guest meant ≡ Goes (record {
      hart = answered (record guest.hart { memory = left.memory }) value;
      world = left.files;
      heap = left.heap;
      steps = guest.steps + 1;
    })
goes_back guest (call.goes answer to) number value old left is =
    λ i. Goes (record {
      hart = answered (record guest.hart { memory = (sym is.1 i).memory }) (sym is.0 i);
      world = (sym is.1 i).files;
      heap = (sym is.1 i).heap;
      steps = guest.steps + 1;
    })
goes_back guest (call.exits status) number value old left is = absurd is
goes_back guest (call.is_unknown n) number value old left is = absurd is

pub exits_with : (guest : GuestState) (meant : CallOutcome) (number code : ℕ) (old left : CallState) → IsAnswer number old left meant (Exit code)
    → (step_of_call guest meant ≡ Ends (Exited code)) × (left ≡ old)
exits_with guest (call.goes answer to) number code old left is = absurd is
exits_with guest (call.exits status) number code old left is = (ap (λ s. Ends (Exited s)) (sym is.0), is.1)
exits_with guest (call.is_unknown n) number code old left is = absurd is

pub unknown_is : (guest : GuestState) (meant : CallOutcome) (number n : ℕ) (old left : CallState) → IsAnswer number old left meant (Unknown n)
    → (step_of_call guest meant ≡ Ends (UnknownCall n)) × (left ≡ old)
unknown_is guest (call.goes answer to) number n old left is = absurd is
unknown_is guest (call.exits status) number n old left is = absurd is
unknown_is guest (call.is_unknown m) number n old left is = (ap (λ s. Ends (UnknownCall s)) (sym is.0), is.1)

pub wants_memory : (guest : GuestState) (meant : CallOutcome) (left : CallState)
    → IsAnswer (call_number guest) (state guest.hart.memory guest.world guest.heap) left meant end.OutOfMemory
    → IsTrue (step_goes_on (step_of_call guest meant)) × CallTakesMemory guest meant × (left ≡ state guest.hart.memory guest.world guest.heap)
wants_memory guest (call.goes answer to) left is = (refl, is.0, is.1)
wants_memory guest (call.exits status) left is = absurd is
wants_memory guest (call.is_unknown n) left is = absurd is

-- a state that a call left as it was
pub left_as_was : (guest : GuestState) (left : CallState) → left ≡ state guest.hart.memory guest.world guest.heap
    → guest_state (record guest.hart { memory = left.memory }) left.files left.heap guest.steps ≡ guest
left_as_was guest left same =
    ap (λ (s : CallState). guest_state (record guest.hart { memory = s.memory }) s.files s.heap guest.steps) same

-- a store that would go on is a step that would
goes_if : (guest : GuestState) (an_act : Act) → IsTrue (goes_on an_act) → IsTrue (step_goes_on (step_of_act guest an_act))
goes_if guest (hart.GoesOn to) is = refl
goes_if guest hart.Calls is = absurd (let no-way : false ≡ true = is in cc)
goes_if guest (hart.Traps cause) is = absurd (let no-way : false ≡ true = is in cc)

pub next-store : (guest : GuestState) → IsTrue (goes_on (act guest.hart)) → IsTrue (step_goes_on (next guest))
unfolding next
next-store guest is = goes_if guest (act guest.hart) is

-- the states' counts, of a step that goes on
count_of : Next → ℕ → ℕ
count_of (Goes guest) other = guest.steps
count_of (Ends end) other = other

counted_call : (guest : GuestState) (meant : CallOutcome) (to : GuestState) → step_of_call guest meant ≡ Goes to → to.steps ≡ guest.steps + 1
unfolding count_of
counted_call guest (call.goes answer left) to is = sym (ap (λ n. count_of n 0) is)
counted_call guest (call.exits status) to is = cc
counted_call guest (call.is_unknown n) to is = cc

counted_act : (guest : GuestState) (an_act : Act) (to : GuestState) → step_of_act guest an_act ≡ Goes to → to.steps ≡ guest.steps + 1
unfolding count_of
counted_act guest (hart.GoesOn next') to is = sym (ap (λ n. count_of n 0) is)
counted_act guest hart.Calls to is = counted_call guest (outcome_of guest) to is
counted_act guest (hart.Traps cause) to is = cc

pub next-counted : (guest to : GuestState) → next guest ≡ Goes to → to.steps ≡ guest.steps + 1
unfolding next
next-counted guest to is = counted_act guest (act guest.hart) to is
