use Rattle.hex_langs.proofs.WriterLemmas.Texts.{items_of-written}
use Rattle.hex_langs.proofs.writer.laws.written_is_read_again.Goals as goal

pub returns : goal.returns
returns c = items_of-written
