use Rattle.std.proofs.Common.{map}
use Rattle.report.specs.declared.line.ReportLine.TheVariants.{Left}
use Rattle.report.specs.Lines.{line_words}
use Rattle.report.proofs.Written.{Writes}
use Rattle.report.proofs.writing.put_left_files.Given as goal

abbrev pub invariant-loop-file : goal.invariant-loop-file
invariant-loop-file l = Writes line_words (map Left) l.fn.out l.files l.file-index l.out
