use Rattle.report.proofs.LineByLine.Readings.{is_reading, the_reading}
use Rattle.report.proofs.Readings.{report_rules}
use Rattle.report.proofs.laws.one_reading.Goals as goal

pub returns : goal.returns
returns c = λ bytes reading. (is_reading report_rules bytes reading, the_reading report_rules bytes reading)
