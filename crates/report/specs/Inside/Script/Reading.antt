-- How a script's report is read line by line. To read the promises, this file is not needed.
use Rattle.std.specs.Prelude.{Option, Some, None}
use Rattle.report.specs.Inside.LineByLine.{Reader}
use Rattle.report.specs.Inside.Script.Lines.{line_of}
use Rattle.report.specs.Inside.Script.States.{step}
use Rattle.report.specs.declared.script.line.ScriptLine.{ScriptLine}
use Rattle.report.specs.declared.script.state.ScriptState.{ScriptState}
use Rattle.report.specs.declared.script.state.ScriptState.TheVariants.{Start, Ended}
use Rattle.report.specs.declared.script.types.ScriptReport.{ScriptReport}

-- the report of a state after the end line
abbrev pub ended_script : ScriptState → Option ScriptReport
ended_script (Ended report) = Some report
ended_script _ = None

abbrev pub script_reader : Reader ScriptLine ScriptState ScriptReport
script_reader = record { line_of = line_of; start = Start; step = step; ended = ended_script }
