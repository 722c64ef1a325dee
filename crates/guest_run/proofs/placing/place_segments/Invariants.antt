use Rattle.std.proofs.Common.{◌≡◌, take}
use Rattle.guest_run.specs.Placed.{with_segments}
use Rattle.guest_run.proofs.placing.place_segments.Given as goal

abbrev pub invariant-loop-segment : goal.invariant-loop-segment
invariant-loop-segment g l = g.R.Ram.bytes l.ram ≡ with_segments l.program (take l.segment-index l.segments)
