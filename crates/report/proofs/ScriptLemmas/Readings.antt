-- What a text reads as, in the words of the text of a script's report: the rules that its lines and its reader keep.
use Rattle.std.proofs.Common.{◌≡◌, ℕ, List, Some, None, refl}
use Rattle.report.specs.declared.script.state.ScriptState.{ScriptState}
use Rattle.report.specs.declared.script.state.ScriptState.TheVariants.{Ended}
use Rattle.report.specs.declared.script.types.ScriptReport.{ScriptReport}
use Rattle.report.specs.Inside.LineByLine.{read_all}
use Rattle.report.specs.Inside.Script.Reading.{ended_script, script_reader}
use Rattle.report.specs.Script.Reading.{script_report_of}
use Rattle.report.specs.Script.Reports.{script_report_lines, script_report_texts, IsScriptReport}
use Rattle.report.proofs.ScriptLemmas.Keeps.{Good, good_early, step_keeps, finished, lines_are}
use Rattle.report.proofs.LineByLine.Rules.{Rules}
use Rattle.report.proofs.ScriptLemmas.LineTexts.{IsLine, next_again, next_takes}
use Rattle.report.proofs.ScriptLemmas.Runs.{run_report}
use Rattle.report.proofs.ScriptLemmas.Takes.{so_far, step_takes}

-- the report that a state ends
pub whole : (s : ScriptState) (report : ScriptReport) → Good s → ended_script s ≡ Some report → IsScriptReport report × (so_far s ≡ script_report_lines report)
whole (Ended found) report good e =
    let same : found ≡ report = cc in
    rw (← same) (good, refl)
whole _ report good e = absurd cc

-- the states that end no report
pub unended : (s : ScriptState) → ((report : ScriptReport) → s ≡ Ended report → ⊥) → ended_script s ≡ None
unended (Ended report) other = absurd (other report refl)
unended _ other = refl

pub reads : (bytes : List ℕ) → script_report_of bytes ≡ read_all script_reader bytes
unfolding script_report_of
reads bytes = refl

abbrev pub script_rules : Rules script_reader
script_rules = record {
  texts = script_report_texts;
  read = script_report_of;
  reads = reads;
  IsLine = IsLine;
  again = next_again;
  takes = next_takes;
  fits = lines_are;
  so_far = so_far;
  Good = Good;
  none_yet = refl;
  good_start = tt;
  grows = λ s l t good e. step_takes s l t (good_early s good) e;
  keeps = step_keeps;
  finished = finished;
  end = λ report. Ended report;
  ended = λ report. refl;
  runs_to_end = run_report;
  whole = whole;
  unended = unended;
}
