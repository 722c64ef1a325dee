use Rattle.std.proofs.Common.{◌≡◌, map, take}
use Rattle.save_format.specs.StateText.Seen.{descriptor_view}
use Rattle.checkpoints.proofs.restoring.push_descriptors.Given as goal

abbrev pub invariant-loop-descriptor : goal.invariant-loop-descriptor
invariant-loop-descriptor l = l.list ≡ record l.fn.list { open_files = map descriptor_view (take l.descriptor-index l.descriptors) }
