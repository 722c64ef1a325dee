use Rattle.std.proofs.Common.{◌≡◌, All, length}
use Rattle.report.specs.Script.Reports.{IsCommandLine}
use Rattle.kaem_script.specs.Inside.Commands.{world_in}
use Rattle.kaem_script.proofs.Folding.{Going}
use Rattle.kaem_script.proofs.fold.fold.Given as goal

abbrev pub invariant-loop-index : goal.invariant-loop-index
invariant-loop-index l = record {
  going : Going l.most l.fn.files l.commands l.index l.lines (world_in l.present);
  good : All IsCommandLine l.lines;
  count : length l.lines ≡ l.index;
}
