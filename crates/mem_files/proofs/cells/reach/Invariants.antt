use Rattle.std.proofs.Common.{◌+◌, ◌-◌, ◌≤◌, max, length}
use Rattle.mem_files.specs.Inside.Cells.{SameCells}
use Rattle.mem_files.proofs.cells.reach.Given as goal

abbrev pub invariant-loop-cells : goal.invariant-loop-cells
invariant-loop-cells g l =
    record {
      same : SameCells l.fn.cells.items l.cells.items;
      most : length l.cells.items ≤ max (length l.fn.cells.items) (l.at + 1);
    }

abbrev pub decreases-loop-cells : goal.decreases-loop-cells
decreases-loop-cells g l = l.at + 1 - length l.cells.items
