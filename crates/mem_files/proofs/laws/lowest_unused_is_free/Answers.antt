use Rattle.mem_files.proofs.Maps.{get-lowest_unused, below-lowest_unused}
use Rattle.mem_files.proofs.laws.lowest_unused_is_free.Goals as goal

pub returns : goal.returns
returns c = record {
  open_files = λ w. get-lowest_unused w.open_files;
  open_files_below = λ w fd less. below-lowest_unused w.open_files fd less;
  files = λ w. get-lowest_unused w.files;
  files_below = λ w number less. below-lowest_unused w.files number less;
}
