use Rattle.mem_files.proofs.Tournament.{IsOnWay}
use Rattle.mem_files.proofs.numbers.leftmost.Given as goal

abbrev pub invariant-loop-depth : goal.invariant-loop-depth
invariant-loop-depth l = IsOnWay l.full l.height l.depth l.node
