use Rattle.std.proofs.Common.{refl}
use Rattle.paged_mem.proofs.rows.Rows.of.Goals as goal

pub returns : goal.returns
returns c = record {
  first = c.row_at-first.ensures.row;
  start = c.row_at-first.ensures.start refl;
  second = c.row_at.ensures.row;
  last = c.last_row.ensures;
}
