-- Which reports of scripts are well-formed, their unique text, and the first fault of any other text. Digests are SHA-256 (FIPS 180-4).
-- docs/reference/kaem-report.md is the page for readers.
use Rattle.std.specs.Prelude.{◌≤◌, ℕ, All, List, [], ◌∷◌, ◌++◌, length, map, IsTrue}
use Rattle.std.specs.List.{flat_map}
use Rattle.ddc_base.specs.Limits.{most_commands, most_files, most_names, most_steps}
use Rattle.report.specs.Reports.{IsCount, IsDigest, IsLeft, IsMark, ascend}
use Rattle.report.specs.Script.Lines.{script_line_words, script_lines_text}
use Rattle.report.specs.Texts.{Texts}
use Rattle.report.specs.declared.script.line.ScriptLine.{ScriptLine}
use Rattle.report.specs.declared.script.line.ScriptLine.TheVariants.{Header, Script, File, Command, Stream1, Stream2, Left, End}
use Rattle.report.specs.declared.script.types.CommandLine.{CommandLine}
use Rattle.report.specs.declared.script.types.ScriptReport.{ScriptReport}

-- ---- the text

-- the block of a command
abbrev pub command_block : CommandLine → List ScriptLine
command_block command = Command command.steps ∷ Stream1 command.stream1 ∷ Stream2 command.stream2 ∷ []

abbrev pub script_report_lines : ScriptReport → List ScriptLine
script_report_lines report =
    (Header ∷ Script report.script ∷ map File report.files) ++ flat_map command_block report.commands ++ map Left report.left ++ End ∷ []

-- the unique text of a script's report
abbrev pub script_report_text : ScriptReport → List ℕ
script_report_text report = script_lines_text (script_report_lines report)

-- ---- the well-formed reports

pub record IsCommandLine (command : CommandLine) : Type 0 where
  pub steps : IsCount 1 most_steps command.steps
  pub stream1 : IsMark command.stream1
  pub stream2 : IsMark command.stream2

pub record IsScriptReport (report : ScriptReport) : Type 0 where
  pub script : IsDigest report.script
  pub few_files : length report.files ≤ most_files
  pub each_file : All IsLeft report.files
  pub few_commands : length report.commands ≤ most_commands
  pub each_command : All IsCommandLine report.commands
  pub few_left : length report.left ≤ most_names
  pub each_left : All IsLeft report.left
  pub ascending : IsTrue (ascend report.left)

-- the texts of scripts' reports
abbrev pub script_report_texts : Texts ScriptLine ScriptReport
script_report_texts = record { Is = IsScriptReport; lines = script_report_lines; words = script_line_words }
