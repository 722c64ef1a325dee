-- How a report is read line by line. To read the promises, this file is not needed.
use Rattle.std.specs.Prelude.{Option, Some, None}
use Rattle.report.specs.declared.line.ReportLine.{ReportLine}
use Rattle.report.specs.declared.state.State.{State}
use Rattle.report.specs.declared.state.State.TheVariants.{Start, Ended}
use Rattle.report.specs.declared.types.Report.{Report}
use Rattle.report.specs.Inside.LineByLine.{Reader}
use Rattle.report.specs.Inside.LinesRead.{line_of}
use Rattle.report.specs.Inside.States.{step}

-- the report of a state after the end line
abbrev pub ended_report : State → Option Report
ended_report (Ended report) = Some report
ended_report _ = None

abbrev pub report_reader : Reader ReportLine State Report
report_reader = record { line_of = line_of; start = Start; step = step; ended = ended_report }
