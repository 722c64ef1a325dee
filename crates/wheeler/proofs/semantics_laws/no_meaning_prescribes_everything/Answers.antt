use Rattle.wheeler.proofs.Largest.{not-everything}
use Rattle.wheeler.proofs.semantics_laws.no_meaning_prescribes_everything.Goals as goal

pub returns : goal.returns
returns g c = not-everything g.M.Meaning.prescribes g.M.Meaning.fixed
