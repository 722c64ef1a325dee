use Rattle.wheeler.proofs.Programs.{as-given}
use Rattle.wheeler.proofs.semantics_laws.others_as_given.Goals as goal

pub returns : goal.returns
returns g c = as-given g.L.OtherLanguages.prescribes
