use Rattle.std.proofs.Common.{refl}
use Rattle.rv64_table.proofs.RowsByField.{by_key}
use Rattle.rv64_table.proofs.lookup.row_at_once.Goals as goal

pub returns : goal.returns
returns c = by_key c.args.word _ _ c.ranges.word.fits c.if-word-ne3.false refl c.at_key.ensures.row c.at_key.ensures.fields
