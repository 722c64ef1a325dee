use Rattle.std.proofs.Common.{None, []}
use Rattle.mem_files.specs.Lists.{ListedFile}
use Rattle.save_format.specs.declared.state_text.parts.File.{File}
use Rattle.save_format.specs.StateText.Encoded.{IsFile}
use Rattle.save_format.specs.StateText.Seen.{file_view}
use Rattle.checkpoints.proofs.Restored.{below}
use Rattle.checkpoints.proofs.restoring.push_files.Goals as goal

pub push_file-requires : goal.push_file-requires
push_file-requires c =
    let none : File = record { number = 0; name = None; content = record { ref_ptr = (0, 0); now = [] } } in
    rw c.loop-file.invariant (below file_view (λ (f : ListedFile). f.number) IsFile (λ s f fits. fits.from) c.args.files.now 0 c.loop-file.file-index none c.requires.rise c.loop-file-test.true).0
