use Rattle.report.proofs.LineByLine.Readings.{one_of_text}
use Rattle.report.proofs.ScriptLemmas.Readings.{script_rules}
use Rattle.report.proofs.script.laws.one_text.Goals as goal

pub returns : goal.returns
returns c = one_of_text script_rules
