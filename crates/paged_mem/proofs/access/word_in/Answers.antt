use Rattle.std.proofs.Common.{refl}
use Rattle.paged_mem.proofs.Accessed.{held_read}
use Rattle.paged_mem.proofs.access.word_in.Goals as goal

pub returns-then-ahead-page-clause-value : goal.returns-then-ahead-page-clause-value
returns-then-ahead-page-clause-value c =
    held_read c.args._pages.now c.args.entries.now c.requires.pages c.args.page c.requires.page c.args.at _ c.number_held.result c.index-entries-page.result
    c.ranges.at.fits c.requires.aligned refl c.if-ahead-page.true c.index-entries-page.is c.number_held.ensures.value
