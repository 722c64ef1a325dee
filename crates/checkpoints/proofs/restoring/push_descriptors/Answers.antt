use Rattle.std.proofs.Common.{ℕ}
use Rattle.mem_files.specs.declared.open_file.OpenFile.{OpenFile}
use Rattle.mem_files.specs.declared.open_file.OpenFile.TheVariants.{Input}
use Rattle.save_format.specs.declared.state_text.parts.NumberedDescriptor.{NumberedDescriptor}
use Rattle.save_format.specs.StateText.Encoded.{IsDescriptor}
use Rattle.save_format.specs.StateText.Seen.{descriptor_view}
use Rattle.checkpoints.proofs.Restored.{below}
use Rattle.checkpoints.proofs.restoring.push_descriptors.Goals as goal

pub push_open_file-requires : goal.push_open_file-requires
push_open_file-requires c =
    let none : NumberedDescriptor = record { fd = 0; open_file = Input } in
    rw c.loop-descriptor.invariant (below descriptor_view (λ (d : ℕ × OpenFile). d.0) IsDescriptor (λ s d fits. fits.from) c.args.descriptors.now 0 c.loop-descriptor.descriptor-index none c.requires.rise c.loop-descriptor-test.true).0
