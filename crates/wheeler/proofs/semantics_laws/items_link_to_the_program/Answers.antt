use Rattle.wheeler.proofs.Programs.{items-link}
use Rattle.wheeler.proofs.semantics_laws.items_link_to_the_program.Goals as goal

pub returns : goal.returns
returns c = items-link
