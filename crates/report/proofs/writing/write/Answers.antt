use Rattle.report.specs.Reports.{report_text}
use Rattle.report.proofs.Lengths.{short, short_result}
use Rattle.report.proofs.writing.write.Goals as goal

pub returns-clause-short : goal.returns-clause-short
returns-clause-short c = short_result (report_text c.args.report.now) c.text_of.result (short c.args.report.now c.requires) c.text_of.ensures
