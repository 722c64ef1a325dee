use Rattle.wheeler.specs.Largest.{AllImplement}
use Rattle.wheeler.proofs.Largest.{concludes-back, within-all}
use Rattle.wheeler.proofs.semantics_laws.its_conclusion_is_the_strongest.Goals as goal

pub returns : goal.returns
returns g c same recipe =
    let m = g.M.Meaning in
    let s = g.S.Semantics.prescribes in
    concludes-back m.prescribes s same m.compiles (AllImplement s) (within-all m.prescribes s same m.compiles m.carry) recipe
