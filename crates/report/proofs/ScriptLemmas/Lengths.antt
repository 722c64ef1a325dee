-- The text of a script's report is short.
use Rattle.std.proofs.Common.{◌*◌, ◌<◌, ◌≤◌, ◌^◌, List, [], ◌∷◌, ◌++◌, length, map, decimal, arith, length-append}
use Rattle.std.specs.Prelude.{All}
use Rattle.std.specs.List.{flat_map}
use Rattle.std.proofs.lemmas.List.Elements.{All-head, All-tail}
use Rattle.hex.specs.Hex.{encode_lower}
use Rattle.ddc_base.specs.Lines.{line as line_text}
use Rattle.ddc_base.specs.Limits.{most_report}
use Rattle.report.specs.declared.types.LeftLine.{LeftLine}
use Rattle.report.specs.declared.script.line.ScriptLine.{ScriptLine}
use Rattle.report.specs.declared.script.line.ScriptLine.TheVariants.{Header, Script, File, Command, Stream1, Stream2, Left, End}
use Rattle.report.specs.declared.script.types.CommandLine.{CommandLine}
use Rattle.report.specs.declared.script.types.ScriptReport.{ScriptReport}
use Rattle.report.specs.Lines.{mark_words}
use Rattle.report.specs.Reports.{IsLeft}
use Rattle.report.specs.Script.Lines.{script_line_words, script_lines_text}
use Rattle.report.specs.Script.Reports.{command_block, script_report_lines, script_report_text, IsScriptReport}
use Rattle.report.proofs.Counts.{mapped}
use Rattle.report.proofs.Lengths.{hex_long, mark_short, number_short}
use Rattle.report.proofs.ScriptLemmas.Keeps.{lines_are}
use Rattle.report.proofs.ScriptLemmas.LineTexts.{IsLine}

named_short : (f : LeftLine) → IsLeft f → length (line_text (encode_lower f.name ∷ mark_words f.mark)) ≤ 597
named_short f is =
    omega (arith, length-append (encode_lower f.name) (32 ∷ line_text (mark_words f.mark)), hex_long f.name, is.count.1, mark_short f.mark is.mark)

line_short : (l : ScriptLine) → IsLine l → length (line_text (script_line_words l)) ≤ 602
line_short Header is = omega arith
line_short (Script d) is = omega (arith, length-append (encode_lower d.0) (10 ∷ []), hex_long d.0, is.count)
line_short (File f) is = omega (arith, named_short f is)
line_short (Command s) is =
    let small : s < 2 ^ 64 = omega (arith, is.1) in
    omega (arith, length-append (decimal s) (10 ∷ []), number_short s small)
line_short (Stream1 m) is = omega (arith, mark_short m is)
line_short (Stream2 m) is = omega (arith, mark_short m is)
line_short (Left f) is = omega (arith, named_short f is)
line_short End is = omega arith

lines_short : (ls : List ScriptLine) → All IsLine ls → length (script_lines_text ls) ≤ 602 * length ls
lines_short [] each = omega arith
lines_short (l ∷ ls) each =
    omega (arith, length-append (line_text (script_line_words l)) (script_lines_text ls), line_short l (All-head IsLine l ls each), lines_short ls (All-tail IsLine l ls each))

-- ---- how many lines there are

blocks_few : (commands : List CommandLine) → length (flat_map command_block commands) ≤ 3 * length commands
blocks_few [] = omega arith
blocks_few (command ∷ commands) = omega (arith, length-append (command_block command) (flat_map command_block commands), blocks_few commands)

lines_few : (report : ScriptReport) → IsScriptReport report → length (script_report_lines report) ≤ 20483
lines_few report is =
    let files = map File report.files in
    let commands = flat_map command_block report.commands in
    let left = map Left report.left in
    omega (
      arith,
      length-append (files ++ commands ++ left) (End ∷ []),
      length-append (files ++ commands) left,
      length-append files commands,
      mapped File report.files,
      blocks_few report.commands,
      mapped Left report.left,
      is.few_files,
      is.few_commands,
      is.few_left,
    )

pub short : (report : ScriptReport) → IsScriptReport report → length (script_report_text report) < most_report
short report is = omega (arith, lines_short (script_report_lines report) (lines_are report is), lines_few report is)
