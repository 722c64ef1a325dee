use Rattle.save_format.proofs.ByteFieldsLemmas.Law.{law_of_forms}
use Rattle.save_format.proofs.StateTextLemmas.Texts.{encodes_state}
use Rattle.save_format.proofs.state_text.laws.states_are_read_as_encoded.Goals as goal

pub returns : goal.returns
returns c = law_of_forms encodes_state
