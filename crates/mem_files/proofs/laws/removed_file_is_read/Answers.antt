use Rattle.mem_files.proofs.LawLemmas.{removed_read}
use Rattle.mem_files.proofs.laws.removed_file_is_read.Goals as goal

pub returns : goal.returns
returns c = removed_read
