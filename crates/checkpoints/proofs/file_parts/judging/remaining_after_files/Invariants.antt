use Rattle.std.proofs.Common.{◌≡◌, ◌+◌, drop, sum_by}
use Rattle.checkpoints.specs.FileParts.Inside.Judged.{content_size}
use Rattle.checkpoints.proofs.file_parts.judging.remaining_after_files.Given as goal

abbrev pub invariant-loop-file : goal.invariant-loop-file
invariant-loop-file l = l.most + sum_by content_size (drop l.file-index l.files) ≡ l.remaining + sum_by content_size l.files
