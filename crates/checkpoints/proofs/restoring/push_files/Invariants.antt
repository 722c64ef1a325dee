use Rattle.std.proofs.Common.{◌≡◌, map, take}
use Rattle.save_format.specs.StateText.Seen.{file_view}
use Rattle.checkpoints.proofs.restoring.push_files.Given as goal

abbrev pub invariant-loop-file : goal.invariant-loop-file
invariant-loop-file l = l.list ≡ record l.fn.list { files = map file_view (take l.file-index l.files) }
