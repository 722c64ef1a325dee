use Rattle.wheeler.specs.Inside.MacroOrLaws.{own-macro-or}
use Rattle.wheeler.specs.Inside.RunLaws.{own-program}
use Rattle.wheeler.specs.MacroAssembly.{program_of_text}
use Rattle.wheeler.proofs.semantics_laws.programs_of_m1_implement.Goals as goal

pub returns-clause-alone : goal.returns-clause-alone
returns-clause-alone g c = own-program program_of_text

pub returns-clause-others : goal.returns-clause-others
returns-clause-others g c = own-macro-or g.L.OtherLanguages.prescribes
