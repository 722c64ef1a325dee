use Rattle.wheeler.proofs.Largest.{within-all}
use Rattle.wheeler.proofs.semantics_laws.a_semantics_compiles_most.Goals as goal

pub returns : goal.returns
returns g c same = let m = g.M.Meaning in within-all m.prescribes g.S.Semantics.prescribes same m.compiles m.carry
