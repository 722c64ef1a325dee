use Rattle.wheeler.specs.MacroAssembly.{program_of_text}
use Rattle.wheeler.proofs.Programs.{makes-program}
use Rattle.wheeler.proofs.semantics_laws.what_makes_the_program_compiles.Goals as goal

pub returns : goal.returns
returns c = makes-program program_of_text
