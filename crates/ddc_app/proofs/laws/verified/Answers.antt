use Rattle.ddc_app.proofs.Verifying.{verifies}
use Rattle.ddc_app.proofs.laws.verified.Goals as goal

pub returns : goal.returns
returns g c = verifies g.M.Meaning.prescribes g.M.Meaning.compiles c.a_true_report_shows.ensures
