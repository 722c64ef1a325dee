use Rattle.std.proofs.Common.{◌≡◌, length, map}
use Rattle.mem_files.specs.Lists.{listed}
use Rattle.checkpoints.specs.FileParts.Inside.Judged.{have_own_names}
use Rattle.checkpoints.proofs.file_parts.judging.have_own_names.Given as goal

abbrev pub invariant-loop-remaining : goal.invariant-loop-remaining
invariant-loop-remaining l = have_own_names (map listed l.files) ≡ have_own_names (map listed l.remaining)

abbrev pub decreases-loop-remaining : goal.decreases-loop-remaining
decreases-loop-remaining l = length l.remaining
