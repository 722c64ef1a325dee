-- Which line of a script's report may follow which. To read the promises, this file is not needed.
use Rattle.std.specs.Prelude.{◌+◌, ◌==◌, nat_lt, [], ◌∷◌, ◌++◌, length, Option, Some, None, if◌then◌else◌}
use Rattle.ddc_base.specs.Limits.{most_commands, most_files, most_names}
use Rattle.report.specs.Inside.States.{follows}
use Rattle.report.specs.declared.types.LeftLine.{LeftLine}
use Rattle.report.specs.declared.script.line.ScriptLine.{ScriptLine}
use Rattle.report.specs.declared.script.line.ScriptLine.TheVariants.{Header, Script, File, Command, Stream1, Stream2, Left, End}
use Rattle.report.specs.declared.script.state.ScriptState.{ScriptState}
use Rattle.report.specs.declared.script.state.ScriptState.TheVariants.{Start, Titled, Body, Named, Heard, Ended}
use Rattle.report.specs.declared.script.types.CommandLine.{CommandLine}
use Rattle.report.specs.declared.script.types.ScriptReport.{ScriptReport}

-- one more file, command, or left file
abbrev pub with_file : ScriptReport → LeftLine → ScriptReport
with_file report file = record report { files = report.files ++ file ∷ [] }

abbrev pub with_command : ScriptReport → CommandLine → ScriptReport
with_command report command = record report { commands = report.commands ++ command ∷ [] }

abbrev pub with_left : ScriptReport → LeftLine → ScriptReport
with_left report file = record report { left = report.left ++ file ∷ [] }

-- the state after one more line: files precede commands, and commands precede left files
unfoldable pub step : ScriptState → ScriptLine → Option ScriptState
step Start Header = Some Titled
step Titled (Script digest) = Some (Body (record { script = digest; files = []; commands = []; left = [] }))
step (Body report) (File file) =
    if nat_lt (length report.files) most_files
    then (if length report.commands + length report.left == 0 then Some (Body (with_file report file)) else None)
    else None
step (Body report) (Command steps) =
    if nat_lt (length report.commands) most_commands
    then (if length report.left == 0 then Some (Named report steps) else None)
    else None
step (Named report steps) (Stream1 mark) = Some (Heard report steps mark)
step (Heard report steps stream1) (Stream2 mark) = Some (Body (with_command report (record { steps = steps; stream1 = stream1; stream2 = mark })))
step (Body report) (Left file) =
    if nat_lt (length report.left) most_names
    then (if follows report.left file.name then Some (Body (with_left report file)) else None)
    else None
step (Body report) End = Some (Ended report)
step _ _ = None
