use Rattle.std.specs.List.{flat_map}
use Rattle.report.specs.Script.Lines.{script_line_words}
use Rattle.report.specs.Script.Reports.{command_block}
use Rattle.report.proofs.Written.{Writes}
use Rattle.report.proofs.script.writing.put_commands.Given as goal

abbrev pub invariant-loop-command : goal.invariant-loop-command
invariant-loop-command l = Writes script_line_words (flat_map command_block) l.fn.out l.commands l.command-index l.out
