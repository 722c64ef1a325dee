use Rattle.report.specs.Script.Reports.{script_report_text}
use Rattle.report.proofs.Lengths.{short_result}
use Rattle.report.proofs.ScriptLemmas.Lengths.{short}
use Rattle.report.proofs.script.writing.write.Goals as goal

pub returns-clause-short : goal.returns-clause-short
returns-clause-short c = short_result (script_report_text c.args.report.now) c.text_of.result (short c.args.report.now c.requires) c.text_of.ensures
