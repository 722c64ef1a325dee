use Rattle.save_format.specs.StateText.Seen.{state_view}
use Rattle.checkpoints.proofs.patching.applied.Goals as goal

pub patched_guest_of-requires : goal.patched_guest_of-requires
patched_guest_of-requires g c = (state_view c.args.base.now, c.in-Ok.ensures.found.0)
