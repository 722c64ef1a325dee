-- The reading of a text as a function, for definitions of commands to cite. The law `one_reading` says that it is the
-- text's one reading (`IsReading`).
-- How it is computed matters to no other promise.
use Rattle.std.specs.Prelude.{ℕ, List, Result}
use Rattle.report.specs.declared.types.Report.{Report}
use Rattle.report.specs.Inside.LineByLine.{read_all}
use Rattle.report.specs.Inside.Reading.{report_reader}

-- the report with this text, or otherwise the least number of lines that no report begins with
unfoldable pub report_of : List ℕ → Result Report ℕ
report_of bytes = read_all report_reader bytes
