use Rattle.report.proofs.LineByLine.Readings.{reads_ended, reads_unended}
use Rattle.report.proofs.ScriptLemmas.Readings.{script_rules}
use Rattle.report.proofs.script.reading.read_report.Goals as goal

pub returns-in-Ended : goal.returns-in-Ended
returns-in-Ended c =
    let e = c.in_ok-state.ensures in
    reads_ended script_rules c.args.bytes.now e.0 c.in-Ended.report (rw c.in-Ended.is at e.2)

pub returns : goal.returns
returns c =
    let e = c.in_ok-state.ensures in
    reads_unended script_rules c.args.bytes.now e.0 c.in_ok-state.number c.in_ok-state.state e.1 e.2 c.in_default.not-Ended
