use Rattle.wheeler.specs.MacroAssembly.{program_of_text}
use Rattle.wheeler.specs.Inside.RunLaws.{own-program}
use Rattle.wheeler.proofs.semantics_laws.the_program_implements.Goals as goal

pub returns : goal.returns
returns c = own-program program_of_text
