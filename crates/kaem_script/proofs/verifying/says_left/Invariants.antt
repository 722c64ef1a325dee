use Rattle.std.proofs.Common.{◌≡◌, length, option_copied}
use Rattle.mem_files.specs.Outputs.{left}
use Rattle.kaem_script.specs.Faults.{says_files}
use Rattle.kaem_script.proofs.Renewing.{files_after}
use Rattle.kaem_script.proofs.verifying.says_left.Given as goal

abbrev pub invariant-loop-ahead : goal.invariant-loop-ahead
invariant-loop-ahead l = says_files l.ahead (files_after l.files (option_copied l.last)) ≡ says_files l.lines (left l.files)

abbrev pub decreases-loop-ahead : goal.decreases-loop-ahead
decreases-loop-ahead l = length l.ahead
