use Rattle.std.proofs.Common.{◌-◌, ◌≤◌}
use Rattle.linux_calls.specs.HeapOf.{IsHeapOf}
use Rattle.guest_run.specs.State.{guest_state}
use Rattle.guest_run.proofs.Going.{StandsAt}
use Rattle.guest_run.proofs.run.Process.run.Given as goal

abbrev pub invariant-loop-self : goal.invariant-loop-self
invariant-loop-self g l =
    StandsAt l.fn.stop (guest_state l.fn.self.hart l.fn.self.files l.fn.self.heap l.fn.self.steps) l.fn.most (guest_state l.self.hart l.self.files l.self.heap l.self.steps) (l.end - l.self.steps)
    × (l.self.steps ≤ l.end)
    × IsHeapOf l.self.hart.memory l.self.heap

abbrev pub decreases-loop-self : goal.decreases-loop-self
decreases-loop-self g l = l.end - l.self.steps
