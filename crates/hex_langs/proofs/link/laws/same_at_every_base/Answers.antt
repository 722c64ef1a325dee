use Rattle.hex_langs.proofs.LinkLemmas.LinkLaws.{same-at-every-base}
use Rattle.hex_langs.proofs.link.laws.same_at_every_base.Goals as goal

pub returns : goal.returns
returns c = same-at-every-base
