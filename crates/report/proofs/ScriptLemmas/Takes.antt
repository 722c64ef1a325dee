-- Each line that a state takes stands at the end of its lines.
use Rattle.std.proofs.Common.{◌≡◌, ◌+◌, true, cond, eqb, ltb, List, [], ◌∷◌, ◌++◌, length, map, Some, None, refl, sym, ap, ◌∙◌, append_assoc, arith}
use Rattle.std.specs.List.{flat_map}
use Rattle.std.proofs.lemmas.Bool.{eqb-true}
use Rattle.std.proofs.lemmas.Grind.{flat_map-append}
use Rattle.std.proofs.lemmas.List.{append-nil, map_push}
use Rattle.ddc_base.specs.Limits.{most_names}
use Rattle.report.specs.declared.script.line.ScriptLine.{ScriptLine}
use Rattle.report.specs.declared.script.line.ScriptLine.TheVariants.{Header, Script, File, Command, Stream1, Stream2, Left, End}
use Rattle.report.specs.declared.script.types.CommandLine.{CommandLine}
use Rattle.report.specs.declared.types.LeftLine.{LeftLine}
use Rattle.report.specs.declared.script.types.ScriptReport.{ScriptReport}
use Rattle.report.specs.declared.script.state.ScriptState.{ScriptState}
use Rattle.report.specs.declared.script.state.ScriptState.TheVariants.{Start, Titled, Body, Named, Heard, Ended}
use Rattle.report.specs.Inside.Script.States.{step, with_command, with_file, with_left}
use Rattle.report.specs.Inside.States.{follows}
use Rattle.report.specs.Script.Reports.{command_block, script_report_lines}
use Rattle.report.proofs.Counts.{none_of}
use Rattle.report.proofs.Cuts.{if_some, same_some}

-- the lines above the end
abbrev pub body_lines : ScriptReport → List ScriptLine
body_lines report = (Header ∷ Script report.script ∷ map File report.files) ++ flat_map command_block report.commands ++ map Left report.left

-- the lines that a state has taken
abbrev pub so_far : ScriptState → List ScriptLine
so_far Start = []
so_far Titled = Header ∷ []
so_far (Body report) = body_lines report
so_far (Named report steps) = body_lines report ++ Command steps ∷ []
so_far (Heard report steps stream1) = body_lines report ++ Command steps ∷ Stream1 stream1 ∷ []
so_far (Ended report) = script_report_lines report

-- a state known by its lines
grows : (s t : ScriptState) (line : ScriptLine) → Some t ≡ Some s → (ls : List ScriptLine) → so_far t ≡ ls ++ line ∷ [] → so_far s ≡ ls ++ line ∷ []
grows s t line e ls is = ap so_far (sym (same_some t s e)) ∙ is

-- no command and no file that is left
pub record IsPrefix (report : ScriptReport) : Type 0 where
  pub commands : report.commands ≡ []
  pub left : report.left ≡ []

pub is_prefix : (report : ScriptReport) → eqb (length report.commands + length report.left) 0 ≡ true → IsPrefix report
is_prefix report e =
    let sum = eqb-true _ _ e in
    let no_commands : length report.commands ≡ 0 = omega (arith, sum) in
    let no_left : length report.left ≡ 0 = omega (arith, sum) in
    record { commands = none_of report.commands no_commands; left = none_of report.left no_left }

prefix_lines : (report : ScriptReport) → IsPrefix report → body_lines report ≡ Header ∷ Script report.script ∷ map File report.files
prefix_lines report prefix =
    let ls = Header ∷ Script report.script ∷ map File report.files in
    ap (λ (cs : List CommandLine). ls ++ flat_map command_block cs ++ map Left report.left) prefix.commands
    ∙ ap (λ (left : List LeftLine). ls ++ [] ++ map Left left) prefix.left
    ∙ append-nil (ls ++ []) ∙ append-nil ls

file_push : (report : ScriptReport) (file : LeftLine) → IsPrefix report → body_lines (with_file report file) ≡ body_lines report ++ File file ∷ []
file_push report file prefix =
    prefix_lines (with_file report file) (record { commands = prefix.commands; left = prefix.left })
    ∙ ap (λ (ls : List ScriptLine). Header ∷ Script report.script ∷ ls) (map_push File report.files file)
    ∙ ap (λ (ls : List ScriptLine). ls ++ File file ∷ []) (sym (prefix_lines report prefix))

-- where no file is left yet, a command's block stands at the end
unleft : (report : ScriptReport) → report.left ≡ [] → body_lines report ≡ (Header ∷ Script report.script ∷ map File report.files) ++ flat_map command_block report.commands
unleft report none =
    let ls = Header ∷ Script report.script ∷ map File report.files in
    ap (λ (left : List LeftLine). ls ++ flat_map command_block report.commands ++ map Left left) none
    ∙ append-nil (ls ++ flat_map command_block report.commands)

command_push : (report : ScriptReport) (command : CommandLine) (more : ScriptReport) → report.left ≡ [] → more ≡ record report { commands = report.commands ++ command ∷ [] }
    → body_lines more ≡ body_lines report ++ command_block command
command_push report command more none is =
    let ls = Header ∷ Script report.script ∷ map File report.files in
    let pushed : flat_map command_block (report.commands ++ command ∷ []) ≡ flat_map command_block report.commands ++ command_block command =
    flat_map-append command_block report.commands (command ∷ []) ∙ ap (λ (rest : List ScriptLine). flat_map command_block report.commands ++ rest) (append-nil (command_block command)) in
    ap body_lines is ∙ unleft (record report { commands = report.commands ++ command ∷ [] }) none
    ∙ ap (λ (rest : List ScriptLine). ls ++ rest) pushed
    ∙ sym (append_assoc ls (flat_map command_block report.commands) (command_block command))
    ∙ ap (λ (prefix : List ScriptLine). prefix ++ command_block command) (sym (unleft report none))

left_push : (report : ScriptReport) (file : LeftLine) → body_lines (with_left report file) ≡ body_lines report ++ Left file ∷ []
left_push report file =
    let ls = (Header ∷ Script report.script ∷ map File report.files) ++ flat_map command_block report.commands in
    ap (λ (more : List ScriptLine). ls ++ more) (map_push Left report.left file)
    ∙ sym (append_assoc ls (map Left report.left) (Left file ∷ []))

-- what a state knows of what was not read yet
abbrev pub Early : ScriptState → Type 0
Early (Named report steps) = report.left ≡ []
Early (Heard report steps stream1) = report.left ≡ []
Early _ = Unit {0}

pub no_left : (report : ScriptReport) → eqb (length report.left) 0 ≡ true → report.left ≡ []
no_left report e = none_of report.left (eqb-true _ _ e)

pub step_takes : (s : ScriptState) (line : ScriptLine) (t : ScriptState) → Early s → step s line ≡ Some t → so_far t ≡ so_far s ++ line ∷ []
unfolding step
step_takes Start Header t early e = grows t Titled Header e [] refl
step_takes Titled (Script digest) t early e = grows t (Body (record { script = digest; files = []; commands = []; left = [] })) (Script digest) e (Header ∷ []) refl
step_takes (Body report) (File file) t early e =
    let p = if_some (ltb (length report.files) most_names) (cond (eqb (length report.commands + length report.left) 0) (Some (Body (with_file report file))) None) t e in
    let q = if_some (eqb (length report.commands + length report.left) 0) (Some (Body (with_file report file))) t p.1 in
    grows t (Body (with_file report file)) (File file) q.1 (body_lines report) (file_push report file (is_prefix report q.0))
step_takes (Body report) (Command steps) t early e =
    let p = if_some (ltb (length report.commands) most_names) (cond (eqb (length report.left) 0) (Some (Named report steps)) None) t e in
    let q = if_some (eqb (length report.left) 0) (Some (Named report steps)) t p.1 in
    grows t (Named report steps) (Command steps) q.1 (body_lines report) refl
step_takes (Named report steps) (Stream1 mark) t early e =
    grows t (Heard report steps mark) (Stream1 mark) e (body_lines report ++ Command steps ∷ []) (sym (append_assoc (body_lines report) (Command steps ∷ []) (Stream1 mark ∷ [])))
step_takes (Heard report steps stream1) (Stream2 mark) t early e =
    grows t (Body (with_command report (record { steps = steps; stream1 = stream1; stream2 = mark }))) (Stream2 mark) e (body_lines report ++ Command steps ∷ Stream1 stream1 ∷ [])
    (command_push report (record { steps = steps; stream1 = stream1; stream2 = mark }) (with_command report (record { steps = steps; stream1 = stream1; stream2 = mark })) early refl
    ∙ sym (append_assoc (body_lines report) (Command steps ∷ Stream1 stream1 ∷ []) (Stream2 mark ∷ [])))
step_takes (Body report) (Left file) t early e =
    let p = if_some (ltb (length report.left) most_names) (cond (follows report.left file.name) (Some (Body (with_left report file))) None) t e in
    let q = if_some (follows report.left file.name) (Some (Body (with_left report file))) t p.1 in
    grows t (Body (with_left report file)) (Left file) q.1 (body_lines report) (left_push report file)
step_takes (Body report) End t early e = grows t (Ended report) End e (body_lines report) refl
step_takes _ _ t early e = absurd cc
