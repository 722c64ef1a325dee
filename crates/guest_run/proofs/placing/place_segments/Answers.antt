use Rattle.guest_run.proofs.SegmentAddresses.{free_ahead}
use Rattle.guest_run.proofs.placing.place_segments.Goals as goal

pub place_segment-requires-clause-free : goal.place_segment-requires-clause-free
place_segment-requires-clause-free g c address from to =
    rw c.loop-segment.invariant
    (free_ahead c.args.program.now c.args.segments.now c.loop-segment.segment-index _ c.loop-segment-test.true c.requires.placed c.requires.apart address from to)
