use Rattle.std.proofs.Common.{◌≡◌, ◌<◌, ◌≤◌, ℕ, drop}
use Rattle.mem_files.specs.Inside.Numbers.{IsRightBut}
use Rattle.mem_files.proofs.numbers.settle.Given as goal

abbrev pub invariant-loop-node : goal.invariant-loop-node
invariant-loop-node l = IsRightBut l.node l.full × (l.node ≤ l.from) × ((count : ℕ) → l.from < count → drop count l.full ≡ drop count l.fn.full)

abbrev pub decreases-loop-node : goal.decreases-loop-node
decreases-loop-node l = l.node
