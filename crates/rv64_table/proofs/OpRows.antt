-- The rows stand in the order of the operations.
use Rattle.std.proofs.Common.{◌≡◌, Some, refl, slice_index_or}
use Rattle.rv64_table.specs.declared.Row.{Row}
use Rattle.rv64_table.specs.declared.Op.{Op}
use Rattle.rv64_table.specs.declared.Op.TheVariants.{Lui}
use Rattle.rv64_table.specs.Table.{table, op_number, row_with}

-- the row of an operation stands at the operation's number
pub row_with-at : (op : Op) (d : Row) → row_with op ≡ Some (slice_index_or table (op_number op) d)
unfolding table
row_with-at Lui d = refl
row_with-at _ d = refl

-- and is of that operation
pub op-at : (op : Op) (d : Row) → (slice_index_or table (op_number op) d).op ≡ op
unfolding table
op-at Lui d = refl
op-at _ d = refl
