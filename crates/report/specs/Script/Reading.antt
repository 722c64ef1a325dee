-- The reading of a text as a function, for definitions of commands to cite. The law `one_reading` says that it is the
-- text's one reading (`IsReading`).
-- How it is computed matters to no other promise.
use Rattle.std.specs.Prelude.{ℕ, List, Result}
use Rattle.report.specs.Inside.LineByLine.{read_all}
use Rattle.report.specs.Inside.Script.Reading.{script_reader}
use Rattle.report.specs.declared.script.types.ScriptReport.{ScriptReport}

-- the report with this text, or otherwise the least number of lines that no report begins with
unfoldable pub script_report_of : List ℕ → Result ScriptReport ℕ
script_report_of bytes = read_all script_reader bytes
