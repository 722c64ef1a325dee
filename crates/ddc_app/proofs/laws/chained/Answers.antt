use Rattle.ddc_app.proofs.Chaining.{chains}
use Rattle.ddc_app.proofs.laws.chained.Goals as goal

pub returns : goal.returns
returns g c = chains g.M.Meaning.prescribes g.M.Meaning.compiles c.composed.ensures
