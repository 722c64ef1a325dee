-- One line of a report, read by itself. To read the promises, this file is not needed.
use Rattle.std.specs.Prelude.{ℕ, List, Option, Some, None, codes, bytes_eq, if◌then◌else◌}
use Rattle.ddc_base.specs.Decimals.{as_decimal}
use Rattle.ddc_base.specs.Names.{name_of}
use Rattle.ddc_base.specs.Languages.Words.{language_named}
use Rattle.report.specs.declared.line.ReportLine.{ReportLine}
use Rattle.report.specs.declared.line.ReportLine.TheVariants.{Header, Recipe, Input, Stage, Stream1, Stream2, Left, Made, Checked, Compare, End}
use Rattle.report.specs.declared.types.Compared.{Compared}
use Rattle.report.specs.Inside.Cuts.{◌>>=◌, cut_at}
use Rattle.report.specs.Inside.Fields.{file_line_of, digest_of, mark_of, stream_line_of, compared_of}

unfoldable pub header_of : List ℕ → Option ReportLine
header_of fields = if bytes_eq fields (codes "1") then Some (Header 1) else (if bytes_eq fields (codes "2") then Some (Header 2) else None)

unfoldable pub recipe_of : List ℕ → Option ReportLine
recipe_of fields = do
  digest ← digest_of fields
  Some (Recipe digest)

unfoldable pub input_of : List ℕ → Option ReportLine
input_of fields = do
  cut ← cut_at 32 fields
  name ← name_of cut.0
  mark ← mark_of cut.1
  Some (Input (record { name = name; mark = mark }))

unfoldable pub stage_of : List ℕ → Option ReportLine
stage_of fields = do
  cut ← cut_at 32 fields
  name ← name_of cut.0
  steps ← as_decimal cut.1
  Some (Stage name steps)

unfoldable pub stream_of : List ℕ → Option ReportLine
stream_of fields = stream_line_of Stream1 Stream2 fields

unfoldable pub left_of : List ℕ → Option ReportLine
left_of fields = do
  file ← file_line_of fields
  Some (Left file)

unfoldable pub made_of : List ℕ → Option ReportLine
made_of fields = do
  mark ← mark_of fields
  Some (Made mark)

unfoldable pub checked_of : List ℕ → Option ReportLine
checked_of fields = do
  language ← language_named fields
  Some (Checked (Some language))

-- the compared binary and the result of the comparison
unfoldable pub binary_of : List ℕ → Option (List ℕ × Compared)
binary_of text = do
  cut ← cut_at 32 text
  binary ← name_of cut.0
  found ← compared_of cut.1
  Some (binary, found)

unfoldable pub compare_of : List ℕ → Option ReportLine
compare_of fields = do
  cut ← cut_at 32 fields
  stage ← name_of cut.0
  found ← binary_of cut.1
  Some (Compare (record { stage = stage; binary = found.0; result = found.1 }))

-- a line with more than one word, by its first word
unfoldable pub line_of_kind : List ℕ → List ℕ → Option ReportLine
line_of_kind kind fields =
    if bytes_eq kind (codes "ddc-report") then header_of fields
    else (if bytes_eq kind (codes "recipe") then recipe_of fields
    else (if bytes_eq kind (codes "input") then input_of fields
    else (if bytes_eq kind (codes "stage") then stage_of fields
    else (if bytes_eq kind (codes "stream") then stream_of fields
    else (if bytes_eq kind (codes "left") then left_of fields
    else (if bytes_eq kind (codes "made") then made_of fields
    else (if bytes_eq kind (codes "checked") then checked_of fields
    else (if bytes_eq kind (codes "compare") then compare_of fields
    else None))))))))

unfoldable pub longer_line_of : List ℕ → Option ReportLine
longer_line_of text = do
  cut ← cut_at 32 text
  line_of_kind cut.0 cut.1

-- the line with this text, given without its LF
unfoldable pub line_of : List ℕ → Option ReportLine
line_of text =
    if bytes_eq text (codes "end") then Some End
    else (if bytes_eq text (codes "unchecked") then Some (Checked None)
    else longer_line_of text)
