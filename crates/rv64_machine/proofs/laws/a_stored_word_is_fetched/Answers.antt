use Rattle.rv64_machine.proofs.ActLemmas.{act-after_store}
use Rattle.rv64_machine.proofs.laws.a_stored_word_is_fetched.Goals as goal

pub returns : goal.returns
returns c = act-after_store
