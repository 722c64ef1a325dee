use Rattle.hex_langs.proofs.LinkLemmas.LinkLaws.{bytes-end-appended-the-last}
use Rattle.hex_langs.proofs.link.laws.bytes_end_after_the_last.Goals as goal

pub returns : goal.returns
returns c = bytes-end-appended-the-last
