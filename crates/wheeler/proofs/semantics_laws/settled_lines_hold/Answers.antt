use Rattle.wheeler.proofs.SettledLines.{settled-holds}
use Rattle.wheeler.proofs.semantics_laws.settled_lines_hold.Goals as goal

pub returns : goal.returns
returns g c = settled-holds g.S.Semantics.prescribes g.S.Semantics.fixed
