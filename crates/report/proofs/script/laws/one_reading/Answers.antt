use Rattle.report.proofs.LineByLine.Readings.{is_reading, the_reading}
use Rattle.report.proofs.ScriptLemmas.Readings.{script_rules}
use Rattle.report.proofs.script.laws.one_reading.Goals as goal

pub returns : goal.returns
returns c = λ bytes reading. (is_reading script_rules bytes reading, the_reading script_rules bytes reading)
