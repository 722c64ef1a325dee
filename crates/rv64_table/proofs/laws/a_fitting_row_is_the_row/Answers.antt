use Rattle.rv64_table.proofs.Apart.{row_for-matches}
use Rattle.rv64_table.proofs.laws.a_fitting_row_is_the_row.Goals as goal

pub returns : goal.returns
returns c = row_for-matches
