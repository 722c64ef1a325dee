use Rattle.rv64_decode.proofs.RoundTrip.{word-in-form}
use Rattle.rv64_decode.proofs.laws.the_instructions_in_form_have_words.Goals as goal

pub returns : goal.returns
returns c = word-in-form
