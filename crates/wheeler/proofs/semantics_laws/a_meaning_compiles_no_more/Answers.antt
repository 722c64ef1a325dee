use Rattle.wheeler.proofs.Largest.{same-itself, within-all}
use Rattle.wheeler.proofs.semantics_laws.a_meaning_compiles_no_more.Goals as goal

pub returns : goal.returns
returns g c = let m = g.M.Meaning in within-all m.prescribes m.prescribes (same-itself m.prescribes) m.compiles m.carry
