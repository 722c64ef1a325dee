use Rattle.mem_files.proofs.LawLemmas.{written_read}
use Rattle.mem_files.proofs.Rules.{kept_of}
use Rattle.mem_files.proofs.laws.written_bytes_are_read.Goals as goal

pub returns : goal.returns
returns c = λ w new fd number file_offset access bytes s. written_read w new fd number file_offset access bytes (kept_of w s)
