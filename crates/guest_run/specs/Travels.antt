-- Running a guest up to the end of its run or to an address. docs/reference/step.md says the same for people.
use Rattle.std.specs.Prelude.{◌≡◌, ◌+◌, ◌-◌, ◌<◌, ◌≤◌, ℕ, zero, suc, IsTrue, Option, Some, None, if◌then◌else◌}
use Rattle.rv64_machine.specs.Hart.{is_stop}
use Rattle.guest_run.specs.declared.run.RunEnd.{RunEnd}
use Rattle.guest_run.specs.declared.run.RunEnd.TheVariants as answer
use Rattle.guest_run.specs.State.{GuestState}
use Rattle.guest_run.specs.Run.{End, Exited, Trapped, UnknownCall, Next, Goes, Ends, StepTakesMemory, after, next, step_goes_on, steps_between}

-- a step ends the run, reaches the address, or is followed by more
abbrev pub travelled : Option ℕ → GuestState → (GuestState → Option End × GuestState) → Next → Option End × GuestState
travelled stop guest more (Ends end) = (Some end, guest)
travelled stop guest more (Goes to) = if is_stop stop to.hart.pc then (None, to) else more to

-- at most this many steps, up to the end of the run or to the step that reaches the address: the end, if it occurs, and the state that is
-- left
unfoldable pub travel : Option ℕ → GuestState → ℕ → Option End × GuestState
travel stop guest zero = (None, guest)
travel stop guest (suc most) = travelled stop guest (λ to. travel stop to most) (next guest)

-- the answer of such a run, and the state that it leaves. Out of memory occurs only in a step that would have continued. The rest of the
-- run from the state before that step has the result of the whole run
abbrev pub TravelsBy : Option ℕ → GuestState → ℕ → RunEnd → GuestState → Type 0
TravelsBy stop old most (answer.Exited status) new = travel stop old most ≡ (Some (Exited status), new)
TravelsBy stop old most (answer.Trapped cause) new = travel stop old most ≡ (Some (Trapped cause), new)
TravelsBy stop old most (answer.UnknownCall number) new = travel stop old most ≡ (Some (UnknownCall number), new)
TravelsBy stop old most answer.Spent new = travel stop old most ≡ (None, new)
TravelsBy stop old most answer.OutOfMemory new =
    (steps_between old new < most) × IsTrue (step_goes_on (next new)) × StepTakesMemory new
    × (travel stop old most ≡ travel stop new (most - steps_between old new))

-- the guest ran so. However the run ended, it is in the state after `count` of the steps
pub record Travels (stop : Option ℕ) (old : GuestState) (most : ℕ) (end : RunEnd) (new : GuestState) : Type 0 where
  pub by_end : TravelsBy stop old most end new
  pub count : ℕ
  pub reached : after old count ≡ Some new
  pub counted : new.steps ≡ old.steps + count
  pub few : count ≤ most
