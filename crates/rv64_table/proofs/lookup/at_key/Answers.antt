-- Where three rows have one funct3, computing them all at a variable funct7 is long: the helper's clause is the answer.
use Rattle.rv64_table.specs.Table.{table}
use Rattle.rv64_table.proofs.RowsByField.{picked}
use Rattle.rv64_table.proofs.lookup.at_key.Goals as goal

pub returns-in-96-clause-row : goal.returns-in-96-clause-row
unfolding table
returns-in-96-clause-row c registers = picked _ _ c.args.word registers _ c.in-96.is c.op.ensures

pub returns-in-101-clause-row : goal.returns-in-101-clause-row
unfolding table
returns-in-101-clause-row c registers = picked _ _ c.args.word registers _ c.in-101.is c.op-in-101.ensures

pub returns-in-112-clause-row : goal.returns-in-112-clause-row
unfolding table
returns-in-112-clause-row c registers = picked _ _ c.args.word registers _ c.in-112.is c.op_32.ensures

pub returns-in-117-clause-row : goal.returns-in-117-clause-row
unfolding table
returns-in-117-clause-row c registers = picked _ _ c.args.word registers _ c.in-117.is c.op_32-in-117.ensures

pub returns-in-224-clause-row : goal.returns-in-224-clause-row
unfolding table
returns-in-224-clause-row c registers = picked _ _ c.args.word registers _ c.in-224.is c.system.ensures
