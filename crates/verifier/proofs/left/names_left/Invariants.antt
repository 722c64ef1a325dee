use Rattle.std.proofs.Common.{◌≡◌, drop, option_copied}
use Rattle.mem_files.specs.Outputs.{left}
use Rattle.verifier.specs.Faults.{names_left}
use Rattle.verifier.proofs.LeftFiles.{left_after}
use Rattle.verifier.proofs.left.names_left.Given as goal

abbrev pub invariant-loop-line : goal.invariant-loop-line
invariant-loop-line l = names_left l.lines (left l.files) ≡ names_left (drop l.line-index l.lines) (left_after l.files (option_copied l.last))
