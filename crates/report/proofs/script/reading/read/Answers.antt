use Rattle.report.proofs.LineByLine.Readings.{reads_found, reads_only, reads_refused}
use Rattle.report.proofs.ScriptLemmas.Readings.{script_rules}
use Rattle.report.proofs.script.reading.read.Goals as goal

pub returns-clause-found : goal.returns-clause-found
returns-clause-found c = reads_found script_rules c.args.bytes.now c.read_report.result c.read_report.ensures

pub returns-clause-only : goal.returns-clause-only
returns-clause-only c = λ report is text. reads_only script_rules c.args.bytes.now c.read_report.result report is text c.read_report.ensures

pub returns-clause-refused : goal.returns-clause-refused
returns-clause-refused c = reads_refused script_rules c.args.bytes.now c.read_report.result c.read_report.ensures
