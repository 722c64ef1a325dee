use Rattle.std.proofs.Common.{arith}
use Rattle.paged_mem.proofs.Moves.{within_before_unmap, sound_after_unmap, memory_after_unmap}
use Rattle.paged_mem.proofs.mapping.unmap_pages.Goals as goal

pub close_gap-requires : goal.close_gap-requires
close_gap-requires c =
    let within = within_before_unmap c.args.pages.now.items c.args.bytes.now.items c.deref.result.now c.requires.sound c.args.first c.args.count c.rank-at.result
    c.requires.aligned c.deref.ensures.value c.rank-at.ensures c.requires.present in
    omega (arith, within)

pub overflow_mul-count : goal.overflow_mul-count
overflow_mul-count c =
    let within = within_before_unmap c.args.pages.now.items c.args.bytes.now.items c.deref.result.now c.requires.sound c.args.first c.args.count c.rank-at.result
    c.requires.aligned c.deref.ensures.value c.rank-at.ensures c.requires.present in
    omega (arith, within, c.deref.type_inv.1, c.deref.ensures.len, c.requires.sound.full)

pub close_gap-requires-2 : goal.close_gap-requires-2
close_gap-requires-2 c =
    let within = within_before_unmap c.args.pages.now.items c.args.bytes.now.items c.deref.result.now c.requires.sound c.args.first c.args.count c.rank-at.result
    c.requires.aligned c.deref.ensures.value c.rank-at.ensures c.requires.present in
    omega (arith, within, c.requires.sound.full)

pub returns-clause-sound : goal.returns-clause-sound
returns-clause-sound c =
    sound_after_unmap c.args.pages.now.items c.args.bytes.now.items c.deref.result.now c.requires.sound c.args.first c.args.count c.rank-at.result
    c.requires.aligned c.deref.ensures.value c.rank-at.ensures c.requires.present _ _ c.close_gap.ensures c.close_gap-2.ensures

pub returns-clause-unmapped : goal.returns-clause-unmapped
returns-clause-unmapped c =
    memory_after_unmap c.args.pages.now.items c.args.bytes.now.items c.deref.result.now c.requires.sound c.args.first c.args.count c.rank-at.result
    c.requires.aligned c.deref.ensures.value c.rank-at.ensures c.requires.present _ _ c.close_gap.ensures c.close_gap-2.ensures
