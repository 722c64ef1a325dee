use Rattle.ddc_app.proofs.Pausing.{accepted, same}
use Rattle.ddc_app.proofs.laws.pauses.Goals as goal

pub returns-clause-same : goal.returns-clause-same
returns-clause-same c = same

pub returns-clause-accepted : goal.returns-clause-accepted
returns-clause-accepted c = accepted
