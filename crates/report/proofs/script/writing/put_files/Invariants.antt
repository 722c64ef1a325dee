use Rattle.std.proofs.Common.{map}
use Rattle.report.specs.declared.script.line.ScriptLine.TheVariants.{File}
use Rattle.report.specs.Script.Lines.{script_line_words}
use Rattle.report.proofs.Written.{Writes}
use Rattle.report.proofs.script.writing.put_files.Given as goal

abbrev pub invariant-loop-file : goal.invariant-loop-file
invariant-loop-file l = Writes script_line_words (map File) l.fn.out l.files l.file-index l.out
