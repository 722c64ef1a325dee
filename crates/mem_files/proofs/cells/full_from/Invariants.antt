use Rattle.mem_files.specs.Inside.Cells.{AreEmpty}
use Rattle.mem_files.proofs.cells.full_from.Given as goal

abbrev pub invariant-loop-at : goal.invariant-loop-at
invariant-loop-at g l = AreEmpty l.cells l.from l.at
