use Rattle.std.proofs.Common.{◌≡◌, length}
use Rattle.mem_files.specs.Names.{stripped}
use Rattle.mem_files.proofs.names.strip.Given as goal

abbrev pub invariant-loop-rest : goal.invariant-loop-rest
invariant-loop-rest l = stripped l.rest ≡ stripped l.fn.name

abbrev pub decreases-loop-rest : goal.decreases-loop-rest
decreases-loop-rest l = length l.rest
