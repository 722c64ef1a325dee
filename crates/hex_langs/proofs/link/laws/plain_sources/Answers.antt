use Rattle.hex_langs.proofs.LinkLemmas.LinkLaws.{plain-values}
use Rattle.hex_langs.proofs.link.laws.plain_sources.Goals as goal

pub returns : goal.returns
returns c = plain-values
