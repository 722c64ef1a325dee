-- The lines of a script's report, taken one after the other, lead to its end.
use Rattle.std.proofs.Common.{◌≡◌, ◌+◌, ◌≤◌, true, List, [], ◌∷◌, ◌++◌, length, map, Option, Some, sym, ap, ◌∙◌, append_assoc, arith, length-append}
use Rattle.std.specs.List.{flat_map}
use Rattle.std.proofs.lemmas.List.{append-nil}
use Rattle.ddc_base.specs.declared.digests.Digest.{Digest}
use Rattle.ddc_base.specs.Limits.{most_commands, most_files, most_names}
use Rattle.report.specs.declared.types.LeftLine.{LeftLine}
use Rattle.report.specs.declared.script.line.ScriptLine.{ScriptLine}
use Rattle.report.specs.declared.script.line.ScriptLine.TheVariants.{File, Left, End}
use Rattle.report.specs.declared.script.state.ScriptState.{ScriptState}
use Rattle.report.specs.declared.script.state.ScriptState.TheVariants.{Start, Body, Ended}
use Rattle.report.specs.declared.script.types.CommandLine.{CommandLine}
use Rattle.report.specs.declared.script.types.ScriptReport.{ScriptReport}
use Rattle.report.specs.Inside.Script.States.{step}
use Rattle.report.specs.Reports.{ascend}
use Rattle.report.specs.Script.Reports.{command_block, script_report_lines, IsScriptReport}
use Rattle.report.proofs.Ascending.{follows_last}
use Rattle.report.proofs.Counts.{below}
use Rattle.report.proofs.LineByLine.Rules.{runs, runs_then}

-- the state after the lines
abbrev run : ScriptState → List ScriptLine → Option ScriptState
run state lines = runs step state lines

-- two runs, one after the other
then : (s t : ScriptState) (prefix more : List ScriptLine) → run s prefix ≡ Some t → run s (prefix ++ more) ≡ run t more
then s t prefix more first = runs_then step s t prefix more first

-- the files, before anything else
run_files : (script : Digest) (prefix more : List LeftLine) → length prefix + length more ≤ most_files
    → run (Body (record { script = script; files = prefix; commands = []; left = [] })) (map File more)
    ≡ Some (Body (record { script = script; files = prefix ++ more; commands = []; left = [] }))
unfolding step
run_files script prefix [] few = ap (λ (files : List LeftLine). Some (Body (record { script = script; files = files; commands = []; left = [] }))) (sym (append-nil prefix))
run_files script prefix (file ∷ more) few =
    rw (below (length prefix) most_files (omega arith)) (run_files script (prefix ++ file ∷ []) more (omega (arith, length-append prefix (file ∷ [])))
    ∙ ap (λ (files : List LeftLine). Some (Body (record { script = script; files = files; commands = []; left = [] }))) (append_assoc prefix (file ∷ []) more))

run_commands : (script : Digest) (files : List LeftLine) (prefix more : List CommandLine) → length prefix + length more ≤ most_commands
    → run (Body (record { script = script; files = files; commands = prefix; left = [] })) (flat_map command_block more)
    ≡ Some (Body (record { script = script; files = files; commands = prefix ++ more; left = [] }))
unfolding step
run_commands script files prefix [] few = ap (λ (commands : List CommandLine). Some (Body (record { script = script; files = files; commands = commands; left = [] }))) (sym (append-nil prefix))
run_commands script files prefix (command ∷ more) few =
    rw (below (length prefix) most_commands (omega arith)) (run_commands script files (prefix ++ command ∷ []) more (omega (arith, length-append prefix (command ∷ [])))
    ∙ ap (λ (commands : List CommandLine). Some (Body (record { script = script; files = files; commands = commands; left = [] }))) (append_assoc prefix (command ∷ []) more))

run_left : (script : Digest) (files : List LeftLine) (commands : List CommandLine) (prefix more : List LeftLine) → length prefix + length more ≤ most_names → ascend (prefix ++ more) ≡ true
    → run (Body (record { script = script; files = files; commands = commands; left = prefix })) (map Left more)
    ≡ Some (Body (record { script = script; files = files; commands = commands; left = prefix ++ more }))
unfolding step
run_left script files commands prefix [] few ascending = ap (λ (left : List LeftLine). Some (Body (record { script = script; files = files; commands = commands; left = left }))) (sym (append-nil prefix))
run_left script files commands prefix (file ∷ more) few ascending =
    rw (below (length prefix) most_names (omega arith), follows_last prefix file more ascending)
    (run_left script files commands (prefix ++ file ∷ []) more (omega (arith, length-append prefix (file ∷ []))) (rw (append_assoc prefix (file ∷ []) more) ascending)
    ∙ ap (λ (left : List LeftLine). Some (Body (record { script = script; files = files; commands = commands; left = left }))) (append_assoc prefix (file ∷ []) more))

pub run_report : (report : ScriptReport) → IsScriptReport report → run Start (script_report_lines report) ≡ Some (Ended report)
unfolding step
run_report report is =
    let files = map File report.files in
    let commands = flat_map command_block report.commands in
    let left = map Left report.left in
    let empty : ScriptReport = record { script = report.script; files = []; commands = []; left = [] } in
    let filed : ScriptReport = record { script = report.script; files = report.files; commands = []; left = [] } in
    let ran : ScriptReport = record { script = report.script; files = report.files; commands = report.commands; left = [] } in
    let first = then (Body empty) (Body filed) files commands (run_files report.script [] report.files (omega (arith, is.few_files)))
    ∙ run_commands report.script report.files [] report.commands (omega (arith, is.few_commands)) in
    let second = then (Body empty) (Body ran) (files ++ commands) left first
    ∙ run_left report.script report.files report.commands [] report.left (omega (arith, is.few_left)) is.ascending in
    then (Body empty) (Body report) (files ++ commands ++ left) (End ∷ []) second
