use Rattle.std.proofs.Common.{refl}
use Rattle.paged_mem.proofs.InRows.{page_index-in_row}
use Rattle.paged_mem.proofs.rows.find_in.Goals as goal

pub returns-then-ahead-row : goal.returns-then-ahead-row
returns-then-ahead-row c pages rising is = page_index-in_row pages rising c.args.row is c.args.at _ c.ranges.at.fits refl c.if-ahead-row.true
