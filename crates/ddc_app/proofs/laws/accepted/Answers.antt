use Rattle.ddc_app.proofs.Accepting.{accepts}
use Rattle.ddc_app.proofs.laws.accepted.Goals as goal

pub returns : goal.returns
returns c = accepts
