use Rattle.kaem_script.proofs.Starting.{only-elf}
use Rattle.kaem_script.proofs.laws.no_other_refusal.Goals as goal

pub returns : goal.returns
returns c = only-elf
