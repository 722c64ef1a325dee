use Rattle.ddc_app.proofs.Told.{true-told}
use Rattle.ddc_app.proofs.laws.a_true_report_is_told.Goals as goal

pub returns : goal.returns
returns c = true-told
