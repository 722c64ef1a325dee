-- A run that is checked in segments: the meaning of each answer on the bytes, and of the answers together.
-- docs/reference/segments.md says the same for people.
use Rattle.std.specs.Prelude.{◌≡◌, ℕ, ◌+◌, ◌-◌, ◌<◌, ◌≤◌, ◌⊎◌, IsOk, Ok, Err, Some, None, List, [], ◌∷◌}
use Rattle.ddc_base.specs.Difference.{first_difference}
use Rattle.ddc_base.specs.Limits.{most_steps}
use Rattle.save_format.specs.StateText.Encoded.{text_of_state}
use Rattle.checkpoints.specs.Checkpoint.{MayWantMemory, ReadsState, state_of}
use Rattle.guest_run.specs.declared.run.RunEnd.{RunEnd}
use Rattle.guest_run.specs.declared.run.RunEnd.TheVariants as run
use Rattle.guest_run.specs.Run.{after, first_end, End, Runs}
use Rattle.guest_run.specs.Setting.{Setting}
use Rattle.guest_run.specs.Start.{start_of}
use Rattle.guest_run.specs.State.{GuestState}
use Rattle.segments.specs.Faults.{start_refusal_of, state_refusal_of}
use Rattle.segments.specs.declared.answers.StateFault.{StateFault}
use Rattle.segments.specs.declared.answers.SegmentFault.TheVariants as fault
use Rattle.segments.specs.declared.answers.SegmentAnswer.{SegmentAnswer}
use Rattle.segments.specs.declared.answers.SegmentAnswer.TheVariants as segment
use Rattle.segments.specs.declared.answers.StartAnswer.{StartAnswer}
use Rattle.segments.specs.declared.answers.StartAnswer.TheVariants as beginning

-- ---- a segment of a run

-- `steps` steps, at least one, lead from the first state to the second, and all of them continue
pub record IsPieceOf (from to : GuestState) (steps : ℕ) : Type 0 where
  pub some : 1 ≤ steps
  pub counted : to.steps ≡ from.steps + steps
  pub reached : after from steps ≡ Some to

-- ---- a text of a state

-- the only text of a state in format 2
abbrev pub second_text : GuestState → List ℕ
second_text guest = text_of_state (state_of guest)

-- the bytes are a text of this state, in either format
abbrev pub IsStateOf : List ℕ → GuestState → Type 0
IsStateOf text guest = ReadsState text (Ok guest)

abbrev pub IsNoState : List ℕ → StateFault → Type 0
IsNoState text why = ReadsState text (Err (state_refusal_of why))

-- ---- two texts

-- two texts of states
pub record AreTwoStates (from to : List ℕ) : Type 0 where
  pub first : GuestState
  pub last : GuestState
  pub from_is : IsStateOf from first
  pub to_is : IsStateOf to last

-- the second state is later, by at most 2^48 steps
pub record IsLater (from to : List ℕ) : Type 0 where
  pub states : AreTwoStates from to
  pub later : states.first.steps < states.last.steps
  pub near : states.last.steps ≤ states.first.steps + most_steps

-- the number of steps between them
abbrev pub steps_apart : {from to : List ℕ} → AreTwoStates from to → ℕ
steps_apart states = states.last.steps - states.first.steps

pub record EndsBetween (from to : List ℕ) (step : ℕ) : Type 0 where
  pub at : IsLater from to
  pub end : End
  pub guest : GuestState
  pub ends : first_end at.states.first (steps_apart at.states) ≡ Some (end, guest)
  pub step_is : step ≡ guest.steps + 1

pub record DiffersAt (from to : List ℕ) (offset : ℕ) : Type 0 where
  pub at : IsLater from to
  pub guest : GuestState
  pub reached : after at.states.first (steps_apart at.states) ≡ Some guest
  pub differs : first_difference (second_text guest) (second_text at.states.last) ≡ Some offset

pub record IsSegment (from to : List ℕ) (steps : ℕ) : Type 0 where
  pub states : AreTwoStates from to
  pub piece : IsPieceOf states.first states.last steps
  pub near : steps ≤ most_steps

-- the meaning of an answer on two texts. The first answer that applies is given, since each says that those before it do not apply.
-- Memory may run out only if the first text's form is right and its runs can be mapped
abbrev pub ChecksPiece : List ℕ → List ℕ → SegmentAnswer → Type 0
ChecksPiece from to (segment.Yes steps) = IsSegment from to steps
ChecksPiece from to (segment.No (fault.From why)) = IsNoState from why
ChecksPiece from to (segment.No (fault.To why)) = ((first : GuestState) × IsStateOf from first) × IsNoState to why
ChecksPiece from to (segment.No fault.NotLater) = (states : AreTwoStates from to) × (states.last.steps ≤ states.first.steps)
ChecksPiece from to (segment.No fault.TooFar) = (states : AreTwoStates from to) × (states.first.steps + most_steps < states.last.steps)
ChecksPiece from to (segment.No (fault.EndsAt step)) = EndsBetween from to step
ChecksPiece from to (segment.No (fault.Differs offset)) = DiffersAt from to offset
ChecksPiece from to segment.OutOfMemory = MayWantMemory from

-- ---- the start

-- the program starts in this execution context, in the state of the bytes
pub record BeginsWith (program : List ℕ) (setting : Setting) (text : List ℕ) : Type 0 where
  pub guest : GuestState
  pub starts : start_of program setting ≡ Ok guest
  pub is : IsStateOf text guest

pub record BeginsOtherwise (program : List ℕ) (setting : Setting) (text : List ℕ) (offset : ℕ) : Type 0 where
  pub guest : GuestState
  pub starts : start_of program setting ≡ Ok guest
  pub other : GuestState
  pub is : IsStateOf text other
  pub differs : first_difference (second_text guest) (second_text other) ≡ Some offset

-- the meaning of an answer on a program and a text; memory may run out only if the program starts
abbrev pub StartChecks : List ℕ → Setting → List ℕ → StartAnswer → Type 0
StartChecks program setting text beginning.Yes = BeginsWith program setting text
StartChecks program setting text (beginning.Start why) = start_of program setting ≡ Err (start_refusal_of why)
StartChecks program setting text (beginning.NotState why) = ((guest : GuestState) × (start_of program setting ≡ Ok guest)) × IsNoState text why
StartChecks program setting text (beginning.Differs offset) = BeginsOtherwise program setting text offset
StartChecks program setting text beginning.OutOfMemory = IsOk (start_of program setting)

-- ---- the end

-- an end of a run: an exit, a trap or an unknown call
abbrev pub IsRunsEnd : RunEnd → Type 0
IsRunsEnd (run.Exited status) = Unit {0}
IsRunsEnd (run.Trapped why) = Unit {0}
IsRunsEnd (run.UnknownCall number) = Unit {0}
IsRunsEnd run.Spent = ⊥
IsRunsEnd run.OutOfMemory = ⊥

-- from the state of the bytes, the run ends so at a step up to the limit, and leaves this guest
pub record EndsWith (text : List ℕ) (limit : ℕ) (guest : GuestState) (why : RunEnd) : Type 0 where
  pub from : GuestState
  pub is : IsStateOf text from
  pub below : from.steps < limit
  pub end : IsRunsEnd why
  pub ends : Runs from (limit - from.steps) why guest

-- the run from the state of the bytes does not end at a step up to the limit
pub record GoesOnFrom (text : List ℕ) (limit : ℕ) : Type 0 where
  pub from : GuestState
  pub is : IsStateOf text from
  pub over : (limit ≤ from.steps) ⊎ (first_end from (limit - from.steps) ≡ None)

-- ---- all segments together

-- each text and the next one are a segment
abbrev pub AreLinked : List ℕ → List (List ℕ) → Type 0
AreLinked text [] = Unit {0}
AreLinked text (next ∷ texts) = ((steps : ℕ) × ChecksPiece text next (segment.Yes steps)) × AreLinked next texts

abbrev pub last_text : List ℕ → List (List ℕ) → List ℕ
last_text text [] = text
last_text text (next ∷ texts) = last_text next texts

-- the whole run of a program in an execution context ends so and not before, at the step after those that its last guest counts
pub record IsWholeRun (program : List ℕ) (setting : Setting) (guest : GuestState) (why : RunEnd) : Type 0 where
  pub begun : GuestState
  pub starts : start_of program setting ≡ Ok begun
  pub reached : after begun guest.steps ≡ Some guest
  pub ends : Runs begun (guest.steps + 1) why guest
