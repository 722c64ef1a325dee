use Rattle.rv64_decode.proofs.RoundTrip.{one-word-of}
use Rattle.rv64_decode.proofs.laws.no_instruction_has_two_words.Goals as goal

pub returns : goal.returns
returns c = one-word-of
