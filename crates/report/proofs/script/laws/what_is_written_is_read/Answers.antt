use Rattle.std.proofs.Common.{refl}
use Rattle.report.specs.Script.Reports.{script_report_text}
use Rattle.report.proofs.LineByLine.Readings.{read_its_text}
use Rattle.report.proofs.ScriptLemmas.Readings.{script_rules}
use Rattle.report.proofs.script.laws.what_is_written_is_read.Goals as goal

pub returns : goal.returns
returns c = λ report is. read_its_text script_rules (script_report_text report) report is refl
