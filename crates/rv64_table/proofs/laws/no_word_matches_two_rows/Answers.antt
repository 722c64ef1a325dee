use Rattle.rv64_table.proofs.Apart.{apart}
use Rattle.rv64_table.proofs.laws.no_word_matches_two_rows.Goals as goal

pub returns : goal.returns
returns c = apart
