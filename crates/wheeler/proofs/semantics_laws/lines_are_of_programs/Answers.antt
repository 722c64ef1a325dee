use Rattle.wheeler.proofs.LinesOfPrograms.{all-lines, largest-laws, route-lines}
use Rattle.wheeler.proofs.semantics_laws.lines_are_of_programs.Goals as goal

pub returns-clause-all : goal.returns-clause-all
returns-clause-all g c = let s = g.S.Semantics in all-lines s.prescribes (largest-laws s.prescribes s.fixed s.literal)

pub returns-clause-route : goal.returns-clause-route
returns-clause-route g c = let s = g.S.Semantics in route-lines s.prescribes (largest-laws s.prescribes s.fixed s.literal)
