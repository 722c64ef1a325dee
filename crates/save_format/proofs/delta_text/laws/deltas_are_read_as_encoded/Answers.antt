use Rattle.save_format.proofs.ByteFieldsLemmas.Law.{law}
use Rattle.save_format.proofs.DeltaTextLemmas.Texts.{encodes_delta}
use Rattle.save_format.proofs.delta_text.laws.deltas_are_read_as_encoded.Goals as goal

pub returns : goal.returns
returns c = λ base is. law (encodes_delta base is)
