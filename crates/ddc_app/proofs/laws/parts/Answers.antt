use Rattle.ddc_app.proofs.Pausing.{parts}
use Rattle.ddc_app.proofs.laws.parts.Goals as goal

pub returns : goal.returns
returns c = parts
