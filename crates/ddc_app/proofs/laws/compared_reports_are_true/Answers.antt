use Rattle.ddc_app.proofs.TrueWritten.{true-report}
use Rattle.ddc_app.proofs.laws.compared_reports_are_true.Goals as goal

pub returns : goal.returns
returns c recipe report files compared = true-report recipe report files compared c.no_fault_is_every_word_true.ensures
