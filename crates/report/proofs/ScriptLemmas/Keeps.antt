-- What each state keeps of the rules of a script's report, and how it goes on to one.
use Rattle.std.proofs.Common.{◌≡◌, ℕ, ◌+◌, ◌<◌, true, cond, eqb, ltb, List, [], ◌∷◌, ◌++◌, length, map, Some, None, refl, subst, arith}
use Rattle.std.specs.Prelude.{All}
use Rattle.std.specs.List.{flat_map}
use Rattle.std.proofs.lemmas.List.Elements.{All-append, All-cons, All-head, All-map, All-nil, All-push, All-tail}
use Rattle.ddc_base.specs.declared.digests.Digest.{Digest}
use Rattle.ddc_base.specs.Limits.{most_commands, most_files, most_names}
use Rattle.report.specs.declared.types.LeftLine.{LeftLine}
use Rattle.report.specs.declared.types.Mark.{Mark}
use Rattle.report.specs.declared.script.line.ScriptLine.{ScriptLine}
use Rattle.report.specs.declared.script.line.ScriptLine.TheVariants.{Header, Script, File, Command, Stream1, Stream2, Left, End}
use Rattle.report.specs.declared.script.state.ScriptState.{ScriptState}
use Rattle.report.specs.declared.script.state.ScriptState.TheVariants.{Start, Titled, Body, Named, Heard, Ended}
use Rattle.report.specs.declared.script.types.CommandLine.{CommandLine}
use Rattle.report.specs.declared.script.types.ScriptReport.{ScriptReport}
use Rattle.report.specs.Inside.Script.States.{step, with_command, with_file, with_left}
use Rattle.report.specs.Inside.States.{follows}
use Rattle.report.specs.Reports.{IsDigest, IsLeft, IsMark}
use Rattle.report.specs.Script.Reports.{command_block, script_report_lines, IsCommandLine, IsScriptReport}
use Rattle.report.proofs.Ascending.{ascend_push}
use Rattle.report.proofs.Counts.{grown, is_below}
use Rattle.report.proofs.Cuts.{if_some, same_some}
use Rattle.report.proofs.LineByLine.Rules.{Finishes, finishes_by, finished_by}
use Rattle.report.proofs.Marks.{some_digest, some_digest_is, some_mark, some_mark_is}
use Rattle.report.proofs.ScriptLemmas.LineTexts.{IsLine, IsSteps}
use Rattle.report.proofs.ScriptLemmas.Takes.{Early, no_left, so_far, step_takes}

-- a report with room for one more command, before any file that is left
pub record HasCapacity (report : ScriptReport) : Type 0 where
  pub fits : IsScriptReport report
  pub capacity : length report.commands < most_commands
  pub early : report.left ≡ []

-- what a state keeps
abbrev pub Good : ScriptState → Type 0
Good Start = Unit {0}
Good Titled = Unit {0}
Good (Body report) = IsScriptReport report
Good (Named report steps) = HasCapacity report × IsSteps steps
Good (Heard report steps stream1) = HasCapacity report × IsSteps steps × IsMark stream1
Good (Ended report) = IsScriptReport report

pub good_early : (s : ScriptState) → Good s → Early s
good_early (Named report steps) good = good.0.early
good_early (Heard report steps stream1) good = good.0.early
good_early Start good = tt
good_early Titled good = tt
good_early (Body report) good = tt
good_early (Ended report) good = tt

empty_is : (script : Digest) → IsDigest script → IsScriptReport (record { script = script; files = []; commands = []; left = [] })
empty_is script is = record {
  script = is;
  few_files = omega arith;
  each_file = All-nil IsLeft;
  few_commands = omega arith;
  each_command = All-nil IsCommandLine;
  few_left = omega arith;
  each_left = All-nil IsLeft;
  ascending = refl;
}

file_is : (report : ScriptReport) (file : LeftLine) → IsScriptReport report → length report.files < most_files → IsLeft file → IsScriptReport (with_file report file)
file_is report file good capacity is = record {
  script = good.script;
  few_files = omega (arith, capacity, grown report.files file);
  each_file = All-push IsLeft report.files file good.each_file is;
  few_commands = good.few_commands;
  each_command = good.each_command;
  few_left = good.few_left;
  each_left = good.each_left;
  ascending = good.ascending;
}

command_is : (report : ScriptReport) (steps : ℕ) (stream1 stream2 : Mark) → HasCapacity report → IsSteps steps → IsMark stream1 → IsMark stream2 → IsScriptReport (with_command report (record { steps = steps; stream1 = stream1; stream2 = stream2 }))
command_is report steps stream1 stream2 has counted first second =
    let command : CommandLine = record { steps = steps; stream1 = stream1; stream2 = stream2 } in
    record {
      script = has.fits.script;
      few_files = has.fits.few_files;
      each_file = has.fits.each_file;
      few_commands = omega (arith, has.capacity, grown report.commands command);
      each_command = All-push IsCommandLine report.commands command has.fits.each_command (record { steps = counted; stream1 = first; stream2 = second });
      few_left = has.fits.few_left;
      each_left = has.fits.each_left;
      ascending = has.fits.ascending;
    }

left_is : (report : ScriptReport) (file : LeftLine) → IsScriptReport report → length report.left < most_names → follows report.left file.name ≡ true → IsLeft file → IsScriptReport (with_left report file)
left_is report file good capacity after is = record {
  script = good.script;
  few_files = good.few_files;
  each_file = good.each_file;
  few_commands = good.few_commands;
  each_command = good.each_command;
  few_left = omega (arith, capacity, grown report.left file);
  each_left = All-push IsLeft report.left file good.each_left is;
  ascending = ascend_push report.left file good.ascending after;
}

pub step_keeps : (s : ScriptState) (l : ScriptLine) (t : ScriptState) → Good s → IsLine l → step s l ≡ Some t → Good t
unfolding step
step_keeps Start Header t good is e = subst Good (same_some Titled t e) tt
step_keeps Titled (Script digest) t good is e =
    subst Good (same_some (Body (record { script = digest; files = []; commands = []; left = [] })) t e) (empty_is digest is)
step_keeps (Body report) (File file) t good is e =
    let p = if_some (ltb (length report.files) most_names) (cond (eqb (length report.commands + length report.left) 0) (Some (Body (with_file report file))) None) t e in
    let q = if_some (eqb (length report.commands + length report.left) 0) (Some (Body (with_file report file))) t p.1 in
    subst Good (same_some (Body (with_file report file)) t q.1) (file_is report file good (is_below _ _ p.0) is)
step_keeps (Body report) (Command steps) t good is e =
    let p = if_some (ltb (length report.commands) most_names) (cond (eqb (length report.left) 0) (Some (Named report steps)) None) t e in
    let q = if_some (eqb (length report.left) 0) (Some (Named report steps)) t p.1 in
    subst Good (same_some (Named report steps) t q.1) (record { fits = good; capacity = is_below _ _ p.0; early = no_left report q.0 }, is)
step_keeps (Named report steps) (Stream1 mark) t good is e = subst Good (same_some (Heard report steps mark) t e) (good.0, good.1, is)
step_keeps (Heard report steps stream1) (Stream2 mark) t good is e =
    subst Good (same_some (Body (with_command report (record { steps = steps; stream1 = stream1; stream2 = mark }))) t e) (command_is report steps stream1 mark good.0 good.1 good.2 is)
step_keeps (Body report) (Left file) t good is e =
    let p = if_some (ltb (length report.left) most_names) (cond (follows report.left file.name) (Some (Body (with_left report file))) None) t e in
    let q = if_some (follows report.left file.name) (Some (Body (with_left report file))) t p.1 in
    subst Good (same_some (Body (with_left report file)) t q.1) (left_is report file good (is_below _ _ p.0) q.0 is)
step_keeps (Body report) End t good is e = subst Good (same_some (Ended report) t e) good
step_keeps _ _ t good is e = absurd cc

-- ---- each state goes on to a report

abbrev pub Finished : ScriptState → Type 0
Finished s = Finishes IsScriptReport script_report_lines (so_far s)

-- by one more line
by : (s : ScriptState) (l : ScriptLine) (t : ScriptState) → IsLine l → step s l ≡ Some t → Good s → (Good t → Finished t) → Finished s
by s l t fits stepped good later = finishes_by (so_far s) l (so_far t) (step_takes s l t (good_early s good) stepped) (later (step_keeps s l t good fits stepped))

from_ended : (report : ScriptReport) → Good (Ended report) → Finished (Ended report)
from_ended report good = finished_by (so_far (Ended report)) report good refl

from_body : (report : ScriptReport) → Good (Body report) → Finished (Body report)
unfolding step
from_body report good = by (Body report) End (Ended report) tt refl good (from_ended report)

from_heard : (report : ScriptReport) (steps : ℕ) (mark : Mark) → Good (Heard report steps mark) → Finished (Heard report steps mark)
unfolding step
from_heard report steps mark good = by (Heard report steps mark) (Stream2 some_mark) _ some_mark_is refl good (from_body _)

from_named : (report : ScriptReport) (steps : ℕ) → Good (Named report steps) → Finished (Named report steps)
unfolding step
from_named report steps good = by (Named report steps) (Stream1 some_mark) _ some_mark_is refl good (from_heard report steps some_mark)

from_titled : Finished Titled
unfolding step
from_titled = by Titled (Script some_digest) _ some_digest_is refl tt (from_body _)

pub finished : (s : ScriptState) → Good s → Finished s
unfolding step
finished Start good = by Start Header Titled tt refl tt (λ _. from_titled)
finished Titled good = from_titled
finished (Body report) good = from_body report good
finished (Named report steps) good = from_named report steps good
finished (Heard report steps mark) good = from_heard report steps mark good
finished (Ended report) good = from_ended report good

-- ---- the lines of a report

command_is_lines : (command : CommandLine) → IsCommandLine command → All IsLine (command_block command)
command_is_lines command is =
    All-cons IsLine (Command command.steps) (Stream1 command.stream1 ∷ Stream2 command.stream2 ∷ []) is.steps (
    All-cons IsLine (Stream1 command.stream1) (Stream2 command.stream2 ∷ []) is.stream1 (
    All-cons IsLine (Stream2 command.stream2) [] is.stream2 (All-nil IsLine)))

commands_are : (commands : List CommandLine) → All IsCommandLine commands → All IsLine (flat_map command_block commands)
commands_are [] each = All-nil IsLine
commands_are (command ∷ commands) each =
    All-append IsLine (command_block command) (flat_map command_block commands) (command_is_lines command (All-head IsCommandLine command commands each))
    (commands_are commands (All-tail IsCommandLine command commands each))

pub lines_are : (report : ScriptReport) → IsScriptReport report → All IsLine (script_report_lines report)
lines_are report is =
    let files = map File report.files in
    let commands = flat_map command_block report.commands in
    let left = map Left report.left in
    let prefix : All IsLine (Header ∷ Script report.script ∷ files) =
    All-cons IsLine Header (Script report.script ∷ files) tt (All-cons IsLine (Script report.script) files is.script (All-map IsLine File report.files is.each_file)) in
    let last : All IsLine (End ∷ []) = All-cons IsLine End [] tt (All-nil IsLine) in
    All-append IsLine ((Header ∷ Script report.script ∷ files) ++ commands ++ left) (End ∷ [])
    (All-append IsLine ((Header ∷ Script report.script ∷ files) ++ commands) left
    (All-append IsLine (Header ∷ Script report.script ∷ files) commands prefix (commands_are report.commands is.each_command))
    (All-map IsLine Left report.left is.each_left)) last
