use Rattle.wheeler.proofs.Programs.{keeps-assembly}
use Rattle.wheeler.proofs.semantics_laws.macro_assembly_keeps_assembly.Goals as goal

pub returns : goal.returns
returns c = keeps-assembly
