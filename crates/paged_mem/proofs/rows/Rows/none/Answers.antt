use Rattle.std.proofs.Common.{[]}
use Rattle.paged_mem.proofs.rows.Rows.none.Goals as goal

pub returns : goal.returns
returns c pages = record {
  first = (c.none.ensures.held pages []).in_row;
  start = c.none.ensures.start;
  second = (c.none-2.ensures.held pages []).in_row;
  last = (c.none-3.ensures.held pages []).in_row;
}
