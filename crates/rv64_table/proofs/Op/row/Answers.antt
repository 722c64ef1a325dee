use Rattle.rv64_table.proofs.OpRows.{row_with-at, op-at}
use Rattle.rv64_table.proofs.Op.row.Goals as goal

pub returns-clause-table : goal.returns-clause-table
returns-clause-table c = rw c.listed-rows.ensures (rw c.number.ensures (row_with-at c.args.self _))

pub returns-clause-op : goal.returns-clause-op
returns-clause-op c = rw c.listed-rows.ensures (rw c.number.ensures (op-at c.args.self _))
