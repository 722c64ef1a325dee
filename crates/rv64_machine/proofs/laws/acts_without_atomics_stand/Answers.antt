use Rattle.rv64_machine.proofs.ActsWithoutAtomics.{acts-stand}
use Rattle.rv64_machine.proofs.laws.acts_without_atomics_stand.Goals as goal

pub returns : goal.returns
returns c = acts-stand
