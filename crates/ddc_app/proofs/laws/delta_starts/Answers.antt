use Rattle.ddc_app.proofs.Relative.{delta_starts, delta_starts_answered}
use Rattle.ddc_app.proofs.laws.delta_starts.Goals as goal

pub returns-clause-bytes : goal.returns-clause-bytes
returns-clause-bytes c = delta_starts

pub returns-clause-answered : goal.returns-clause-answered
returns-clause-answered c = delta_starts_answered
