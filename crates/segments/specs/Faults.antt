-- The faults of texts and starts, and the refusals of the layers below, which may also be out of memory.
use Rattle.std.specs.Prelude.{ℕ}
use Rattle.checkpoints.specs.declared.reading.StateRefusal.{StateRefusal}
use Rattle.checkpoints.specs.declared.reading.StateRefusal.TheVariants as state
use Rattle.guest_run.specs.Start as start
use Rattle.segments.specs.declared.answers.StateFault.{StateFault}
use Rattle.segments.specs.declared.answers.StateFault.TheVariants.{Form, Range, FileRef}
use Rattle.segments.specs.declared.answers.StartFault.{StartFault}
use Rattle.segments.specs.declared.answers.StartFault.TheVariants as refused

abbrev pub state_refusal_of : StateFault → StateRefusal
state_refusal_of (Form offset) = state.Form offset
state_refusal_of Range = state.Range
state_refusal_of FileRef = state.FileRef

-- the number that is printed
abbrev pub state_fault_number : StateFault → ℕ
state_fault_number (Form offset) = 1
state_fault_number Range = 2
state_fault_number FileRef = 3

abbrev pub start_refusal_of : StartFault → start.Refusal
start_refusal_of (refused.Elf why) = start.Elf why
start_refusal_of refused.ArgsTooLong = start.ArgsTooLong
start_refusal_of refused.BoxTooLarge = start.BoxTooLarge
