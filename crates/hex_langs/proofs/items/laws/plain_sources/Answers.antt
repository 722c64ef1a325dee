use Rattle.hex_langs.proofs.ItemsLemmas.PlainSources.{plain-items}
use Rattle.hex_langs.proofs.items.laws.plain_sources.Goals as goal

pub returns : goal.returns
returns c = plain-items
