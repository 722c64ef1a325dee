-- One step of a guest, many steps, and how a run ends.
-- docs/reference/running.md says the same for people.
use Rattle.std.specs.Prelude.{◌≡◌, ℕ, zero, suc, ◌+◌, ◌-◌, ◌<◌, ◌⊎◌, Bool, true, false, IsTrue, Option, None, Some, option_and_then, List, [], ◌∷◌, slice_index}
use Rattle.std.specs.Option.{option_or}
use Rattle.rv64_machine.specs.declared.answer.Cause.{Cause}
use Rattle.rv64_machine.specs.Hart.{Act, HartState, act, effect_at, following, is_store, with_register}
use Rattle.rv64_machine.specs.Hart as hart
use Rattle.linux_calls.specs.Calls.{CallOutcome, answer_of, state, syscall}
use Rattle.linux_calls.specs.Calls as call
use Rattle.linux_calls.specs.Answer as taking
use Rattle.guest_run.specs.declared.run.RunEnd.{RunEnd}
use Rattle.guest_run.specs.declared.run.RunEnd.TheVariants as answer
use Rattle.guest_run.specs.State.{GuestState}

-- why a program's run ends: it exits with a status, it traps, or it makes a call whose number is not in the table
pub data End : Type 0 where
  Exited : ℕ → End
  Trapped : Cause → End
  UnknownCall : ℕ → End

-- the result of a step: the guest continues in a state, or its run ends and keeps the state
pub data Next : Type 0 where
  Goes : GuestState → Next
  Ends : End → Next

-- a call has its number in x17 and its arguments in x10 to x15
abbrev pub call_number : GuestState → ℕ
call_number guest = slice_index guest.hart.registers 17

abbrev pub call_arguments : GuestState → List ℕ
call_arguments guest =
    slice_index guest.hart.registers 10 ∷ slice_index guest.hart.registers 11 ∷ slice_index guest.hart.registers 12
    ∷ slice_index guest.hart.registers 13 ∷ slice_index guest.hart.registers 14 ∷ slice_index guest.hart.registers 15 ∷ []

-- the outcome of the call that the guest makes
abbrev pub outcome_of : GuestState → CallOutcome
outcome_of guest = syscall (call_number guest) (call_arguments guest) (state guest.hart.memory guest.world guest.heap)

-- the hart after a call: x10 has the value, and the next instruction follows
abbrev pub answered : HartState → ℕ → HartState
answered hart value = record (with_register hart 10 value) { pc = following hart; reservation = None }

-- the step of a call with this outcome
abbrev pub step_of_call : GuestState → CallOutcome → Next
step_of_call guest (call.goes answer left) = Goes (record {
  hart = answered (record guest.hart { memory = left.memory }) (answer_of answer);
  world = left.files;
  heap = left.heap;
  steps = guest.steps + 1;
})
step_of_call guest (call.exits status) = Ends (Exited status)
step_of_call guest (call.is_unknown number) = Ends (UnknownCall number)

-- the step of an act
abbrev pub step_of_act : GuestState → Act → Next
step_of_act guest (hart.GoesOn next) = Goes (record guest { hart = next; steps = guest.steps + 1 })
step_of_act guest hart.Calls = step_of_call guest (outcome_of guest)
step_of_act guest (hart.Traps cause) = Ends (Trapped cause)

-- one step: an instruction, or a call together with all that the system does for it
unfoldable pub next : GuestState → Next
next guest = step_of_act guest (act guest.hart)

-- the state after a step that continues
abbrev pub went_to : Next → Option GuestState
went_to (Goes guest) = Some guest
went_to (Ends end) = None

-- the state after this many continuing steps; `None` if one of them ends the run
unfoldable pub after : GuestState → ℕ → Option GuestState
after guest zero = Some guest
after guest (suc count) = option_and_then (λ last. went_to (next last)) (after guest count)

-- the end at a step, with the state that it keeps; `None` if the step continues
abbrev pub end_of : GuestState → Next → Option (End × GuestState)
end_of guest (Goes to) = None
end_of guest (Ends end) = Some (end, guest)

-- the end of the run at step `number`, counted from 1, with the state that it leaves. `None` if that step continues or the run ended
-- before
unfoldable pub end_at : GuestState → ℕ → Option (End × GuestState)
end_at guest zero = None
end_at guest (suc count) = option_and_then (λ last. end_of last (next last)) (after guest count)

-- the end that occurs within steps 1 to `most`; `None` if they all continue
unfoldable pub first_end : GuestState → ℕ → Option (End × GuestState)
first_end guest zero = None
first_end guest (suc most) = option_or (first_end guest most) (end_at guest (suc most))

-- the call with this outcome takes memory of the host
abbrev pub CallTakesMemory : GuestState → CallOutcome → Type 0
CallTakesMemory guest (call.goes answer left) =
    taking.TakesMemory (call_number guest) (state guest.hart.memory guest.world guest.heap) answer left
CallTakesMemory guest (call.exits status) = ⊥
CallTakesMemory guest (call.is_unknown number) = ⊥

-- the step takes memory of the host: it is a store, or a call that takes memory
abbrev pub StepTakesMemory : GuestState → Type 0
StepTakesMemory guest =
    IsTrue (is_store guest.hart.reservation (effect_at guest.hart)) ⊎ ((act guest.hart ≡ hart.Calls) × CallTakesMemory guest (outcome_of guest))

-- whether a step continues
abbrev pub step_goes_on : Next → Bool
step_goes_on (Goes guest) = true
step_goes_on (Ends end) = false

-- the answer of a step, `None` if the guest continues, and the state that it leaves. Out of memory hides no end
abbrev pub Steps : GuestState → Option RunEnd → GuestState → Type 0
Steps old None new = next old ≡ Goes new
Steps old (Some (answer.Exited status)) new = (next old ≡ Ends (Exited status)) × (new ≡ old)
Steps old (Some (answer.Trapped cause)) new = (next old ≡ Ends (Trapped cause)) × (new ≡ old)
Steps old (Some (answer.UnknownCall number)) new = (next old ≡ Ends (UnknownCall number)) × (new ≡ old)
Steps old (Some answer.Spent) new = ⊥
Steps old (Some answer.OutOfMemory) new = IsTrue (step_goes_on (next old)) × StepTakesMemory old × (new ≡ old)

-- the number of steps between two states
abbrev pub steps_between : GuestState → GuestState → ℕ
steps_between old new = new.steps - old.steps

-- the answer of a run of at most `most` steps, and the state that it leaves. It is the end that occurs within them, or `Spent`. Out of
-- memory occurs only in a step that would have continued
abbrev pub Runs : GuestState → ℕ → RunEnd → GuestState → Type 0
Runs old most (answer.Exited status) new = first_end old most ≡ Some (Exited status, new)
Runs old most (answer.Trapped cause) new = first_end old most ≡ Some (Trapped cause, new)
Runs old most (answer.UnknownCall number) new = first_end old most ≡ Some (UnknownCall number, new)
Runs old most answer.Spent new = (first_end old most ≡ None) × (after old most ≡ Some new)
Runs old most answer.OutOfMemory new =
    (steps_between old new < most) × (after old (steps_between old new) ≡ Some new) × IsTrue (step_goes_on (next new)) × StepTakesMemory new
