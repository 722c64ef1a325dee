-- One line of a script's report, read by itself. To read the promises, this file is not needed.
use Rattle.std.specs.Prelude.{ℕ, ◌&&◌, nat_le, List, Option, Some, None, codes, bytes_eq, if◌then◌else◌}
use Rattle.ddc_base.specs.Decimals.{as_decimal}
use Rattle.ddc_base.specs.Limits.{most_steps}
use Rattle.report.specs.Inside.Cuts.{◌>>=◌, cut_at}
use Rattle.report.specs.Inside.Fields.{digest_of, file_line_of, stream_line_of}
use Rattle.report.specs.declared.script.line.ScriptLine.{ScriptLine}
use Rattle.report.specs.declared.script.line.ScriptLine.TheVariants.{Header, Script, File, Command, Stream1, Stream2, Left, End}

unfoldable pub header_of : List ℕ → Option ScriptLine
header_of fields = if bytes_eq fields (codes "1") then Some Header else None

unfoldable pub script_of : List ℕ → Option ScriptLine
script_of fields = do
  digest ← digest_of fields
  Some (Script digest)

unfoldable pub file_of : List ℕ → Option ScriptLine
file_of fields = do
  file ← file_line_of fields
  Some (File file)

-- a number from 1 to 2^48
unfoldable pub steps_of : List ℕ → Option ℕ
steps_of text = do
  steps ← as_decimal text
  if nat_le 1 steps && nat_le steps most_steps then Some steps else None

unfoldable pub command_of : List ℕ → Option ScriptLine
command_of fields = do
  steps ← steps_of fields
  Some (Command steps)

unfoldable pub stream_of : List ℕ → Option ScriptLine
stream_of fields = stream_line_of Stream1 Stream2 fields

unfoldable pub left_of : List ℕ → Option ScriptLine
left_of fields = do
  file ← file_line_of fields
  Some (Left file)

-- a line with more than one word, by its first word
unfoldable pub line_of_kind : List ℕ → List ℕ → Option ScriptLine
line_of_kind kind fields =
    if bytes_eq kind (codes "kaem-report") then header_of fields
    else (if bytes_eq kind (codes "script") then script_of fields
    else (if bytes_eq kind (codes "file") then file_of fields
    else (if bytes_eq kind (codes "command") then command_of fields
    else (if bytes_eq kind (codes "stream") then stream_of fields
    else (if bytes_eq kind (codes "left") then left_of fields
    else None)))))

unfoldable pub longer_line_of : List ℕ → Option ScriptLine
longer_line_of text = do
  cut ← cut_at 32 text
  line_of_kind cut.0 cut.1

-- the line with this text, given without its LF
unfoldable pub line_of : List ℕ → Option ScriptLine
line_of text = if bytes_eq text (codes "end") then Some End else longer_line_of text
