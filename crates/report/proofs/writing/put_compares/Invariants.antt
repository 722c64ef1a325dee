use Rattle.std.proofs.Common.{map}
use Rattle.report.specs.declared.line.ReportLine.TheVariants.{Compare}
use Rattle.report.specs.Lines.{line_words}
use Rattle.report.proofs.Written.{Writes}
use Rattle.report.proofs.writing.put_compares.Given as goal

abbrev pub invariant-loop-compare : goal.invariant-loop-compare
invariant-loop-compare l = Writes line_words (map Compare) l.fn.out l.compares l.compare-index l.out
