use Rattle.wheeler.specs.AllContents.{all_contents}
use Rattle.wheeler.specs.Assumptions.{assumed}
use Rattle.wheeler.specs.Largest.{AllImplement}
use Rattle.wheeler.specs.Listed.{lines_listed}
use Rattle.wheeler.specs.Routes.{assumed_named}
use Rattle.wheeler.proofs.Largest.{all-hold, within-all}
use Rattle.wheeler.proofs.semantics_laws.lines_hold_there_too.Goals as goal

pub returns-clause-lines : goal.returns-clause-lines
returns-clause-lines g c same recipe inputs hold =
    let m = g.M.Meaning in
    let s = g.S.Semantics.prescribes in
    all-hold m.prescribes s same m.compiles (AllImplement s) (within-all m.prescribes s same m.compiles m.carry) recipe (all_contents recipe inputs) (assumed recipe) hold

pub returns-clause-route : goal.returns-clause-route
returns-clause-route g c same recipe inputs name hold =
    let m = g.M.Meaning in
    let s = g.S.Semantics.prescribes in
    all-hold m.prescribes s same m.compiles (AllImplement s) (within-all m.prescribes s same m.compiles m.carry) recipe (all_contents recipe inputs)
    (assumed_named recipe name) hold

pub returns-clause-listed : goal.returns-clause-listed
returns-clause-listed g c same recipe inputs hold =
    let m = g.M.Meaning in
    let s = g.S.Semantics.prescribes in
    all-hold m.prescribes s same m.compiles (AllImplement s) (within-all m.prescribes s same m.compiles m.carry) recipe (all_contents recipe inputs)
    (lines_listed recipe) hold
