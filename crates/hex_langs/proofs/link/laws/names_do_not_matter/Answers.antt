use Rattle.hex_langs.proofs.LinkLemmas.LinkLaws.{names-do-not-matter}
use Rattle.hex_langs.proofs.link.laws.names_do_not_matter.Goals as goal

pub returns : goal.returns
returns c = names-do-not-matter
