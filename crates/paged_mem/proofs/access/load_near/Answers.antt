use Rattle.std.proofs.Common.{arith, sym}
use Rattle.paged_mem.specs.Ram.{count_of}
use Rattle.paged_mem.proofs.Accessed.{count_some, few_entries, index_within, read_near}
use Rattle.paged_mem.proofs.access.load_near.Goals as goal

pub bounds-entries-index : goal.bounds-entries-index
bounds-entries-index c = index_within c.args._pages.now c.args.entries.now c.requires.pages _ c.in-Some.index (c.in-Some.ensures c.args._pages.now c.requires.pages.sound.rising c.requires.rows)

pub offset_bounds-entries-index : goal.offset_bounds-entries-index
offset_bounds-entries-index c =
    let within = index_within c.args._pages.now c.args.entries.now c.requires.pages _ c.in-Some.index (c.in-Some.ensures c.args._pages.now c.requires.pages.sound.rising c.requires.rows) in
    omega (arith, within, few_entries c.args._pages.now c.args.entries.now c.requires.pages)

pub returns-in-Some-clause-value : goal.returns-in-Some-clause-value
returns-in-Some-clause-value c =
    sym (read_near c.args._pages.now c.args.entries.now c.requires.pages c.args.at c.in-Some.index (count_of c.args.width) c.number_in.result c.index-entries-index.result
    (count_some c.args.width) (omega (arith, c.count.ensures, c.if-low-count-le-PAGE_LEN.true)) (c.in-Some.ensures c.args._pages.now c.requires.pages.sound.rising c.requires.rows)
    c.index-entries-index.is c.number_in.ensures.value)
