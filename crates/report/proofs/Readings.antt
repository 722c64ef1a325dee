-- What a text reads as, in the words of the report's text: the rules that its lines and its reader keep.
use Rattle.std.proofs.Common.{◌≡◌, ℕ, List, Some, None, refl}
use Rattle.report.specs.declared.state.State.{State}
use Rattle.report.specs.declared.state.State.TheVariants.{Ended}
use Rattle.report.specs.declared.types.Report.{Report}
use Rattle.report.specs.Inside.LineByLine.{read_all}
use Rattle.report.specs.Inside.Reading.{ended_report, report_reader}
use Rattle.report.specs.Reading.{report_of}
use Rattle.report.specs.Reports.{report_lines, report_texts, IsReport}
use Rattle.report.proofs.Keeps.{Good, step_keeps, finished, lines_are}
use Rattle.report.proofs.LineByLine.Rules.{Rules}
use Rattle.report.proofs.LineTexts.{IsLine, next_again, next_takes}
use Rattle.report.proofs.Runs.{run_report}
use Rattle.report.proofs.Takes.{so_far, step_takes}

-- the report that a state ends
pub whole : (s : State) (report : Report) → Good s → ended_report s ≡ Some report → IsReport report × (so_far s ≡ report_lines report)
whole (Ended found) report good e =
    let same : found ≡ report = cc in
    rw (← same) (good, refl)
whole _ report good e = absurd cc

-- the states that end no report
pub unended : (s : State) → ((report : Report) → s ≡ Ended report → ⊥) → ended_report s ≡ None
unended (Ended report) other = absurd (other report refl)
unended _ other = refl

pub reads : (bytes : List ℕ) → report_of bytes ≡ read_all report_reader bytes
unfolding report_of
reads bytes = refl

abbrev pub report_rules : Rules report_reader
report_rules = record {
  texts = report_texts;
  read = report_of;
  reads = reads;
  IsLine = IsLine;
  again = next_again;
  takes = next_takes;
  fits = lines_are;
  so_far = so_far;
  Good = Good;
  none_yet = refl;
  good_start = tt;
  grows = λ s l t good e. step_takes s l t e;
  keeps = step_keeps;
  finished = finished;
  end = λ report. Ended report;
  ended = λ report. refl;
  runs_to_end = run_report;
  whole = whole;
  unended = unended;
}
