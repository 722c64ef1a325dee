use Rattle.std.proofs.Common.{map}
use Rattle.report.specs.declared.line.ReportLine.TheVariants.{Input}
use Rattle.report.specs.Lines.{line_words}
use Rattle.report.proofs.Written.{Writes}
use Rattle.report.proofs.writing.put_inputs.Given as goal

abbrev pub invariant-loop-input : goal.invariant-loop-input
invariant-loop-input l = Writes line_words (map Input) l.fn.out l.inputs l.input-index l.out
