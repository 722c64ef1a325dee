use Rattle.save_format.proofs.ByteFieldsLemmas.Law.{law_of_forms}
use Rattle.save_format.proofs.Texts.{encodes_save}
use Rattle.save_format.proofs.laws.saves_are_read_as_encoded.Goals as goal

pub returns : goal.returns
returns c = law_of_forms encodes_save
