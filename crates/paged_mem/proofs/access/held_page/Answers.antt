use Rattle.std.proofs.Common.{arith, sym, ◌∙◌}
use Rattle.paged_mem.proofs.Accessed.{few_entries, held_found, index_within}
use Rattle.paged_mem.proofs.access.held_page.Goals as goal

pub bounds-entries-index : goal.bounds-entries-index
bounds-entries-index c = index_within c.args._pages.now c.args.entries.now c.requires.pages _ c.in-Some.index (c.in-Some.ensures c.args._pages.now c.requires.pages.sound.rising c.requires.rows)

pub offset_bounds-entries-index : goal.offset_bounds-entries-index
offset_bounds-entries-index c =
    let within = index_within c.args._pages.now c.args.entries.now c.requires.pages _ c.in-Some.index (c.in-Some.ensures c.args._pages.now c.requires.pages.sound.rising c.requires.rows) in
    omega (arith, within, few_entries c.args._pages.now c.args.entries.now c.requires.pages)

pub returns-in-Some : goal.returns-in-Some
returns-in-Some c =
    held_found c.args._pages.now c.args.entries.now c.requires.pages c.args.at c.in-Some.index c.index-entries-index.result
    (c.in-Some.ensures c.args._pages.now c.requires.pages.sound.rising c.requires.rows) c.index-entries-index.is (sym c.is_some.ensures ∙ c.if-is_some.true)

pub returns-in_default : goal.returns-in_default
returns-in_default c = c.none.ensures.held _ _
