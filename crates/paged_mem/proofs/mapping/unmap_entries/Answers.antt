use Rattle.std.proofs.Common.{arith}
use Rattle.paged_mem.proofs.Opened.{are_closed, held_closed, memory_closed, within_removed}
use Rattle.paged_mem.proofs.mapping.unmap_entries.Goals as goal

pub close_gap-requires : goal.close_gap-requires
close_gap-requires c =
    omega (arith, within_removed c.args.pages.now.items c.args.entries.now.items c.deref.result.now c.requires.pages c.args.first c.args.count c.rank-at.result c.requires.aligned c.deref.ensures.value c.rank-at.ensures c.requires.present)

pub close_gap-requires-2 : goal.close_gap-requires-2
close_gap-requires-2 c =
    omega (
      arith,
      c.requires.pages.long,
      within_removed c.args.pages.now.items c.args.entries.now.items c.deref.result.now c.requires.pages c.args.first c.args.count c.rank-at.result c.requires.aligned c.deref.ensures.value c.rank-at.ensures c.requires.present,
    )

pub returns-clause-pages : goal.returns-clause-pages
returns-clause-pages c =
    are_closed c.args.pages.now.items c.args.entries.now.items c.deref.result.now c.requires.pages c.args.first c.args.count c.rank-at.result c.requires.aligned c.deref.ensures.value c.rank-at.ensures
    c.requires.present _ _ c.close_gap.ensures c.close_gap-2.ensures

pub returns-clause-held : goal.returns-clause-held
returns-clause-held c =
    held_closed c.args.pages.now.items c.args.entries.now.items c.deref.result.now c.requires.pages c.args.first c.args.count c.rank-at.result c.requires.aligned c.deref.ensures.value c.rank-at.ensures
    c.requires.present _ _ c.close_gap.ensures c.close_gap-2.ensures

pub returns-clause-unmapped : goal.returns-clause-unmapped
returns-clause-unmapped c =
    memory_closed c.args.pages.now.items c.args.entries.now.items c.deref.result.now c.requires.pages c.args.first c.args.count c.rank-at.result c.requires.aligned c.deref.ensures.value c.rank-at.ensures
    c.requires.present _ _ c.close_gap.ensures c.close_gap-2.ensures
