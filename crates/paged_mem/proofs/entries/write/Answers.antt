use Rattle.std.proofs.Common.{◌+◌, ◌-◌, ◌/◌, arith, refl, sym, ◌∙◌, length-set}
use Rattle.paged_mem.proofs.Flats.{AreFull-set, held_pages-same, is_some-set, length-flat, write_more}
use Rattle.paged_mem.specs.Inside.Entries.{flat}
use Rattle.paged_mem.proofs.entries.write.Goals as goal

pub loop-done-preserved : goal.loop-done-preserved
loop-done-preserved c =
    let inv = c.loop-done.invariant in
    let i = (c.args.start + c.loop-done.done) / 4096 in
    let entry = c.put_into.new.entry in (
      omega (arith, c.piece-count.ensures.few, inv.0),
      length-set c.loop-done.entries i entry ∙ inv.1,
      AreFull-set c.loop-done.entries i entry inv.2 c.put_into.ensures.full,
      write_more c.loop-done.entries (flat c.args.entries.now) c.args.start c.loop-done.done c.piece-count.result (c.loop-done.done + c.piece-count.result - c.loop-done.done)
          c.args.source.now _ entry c.index-entries-at.result inv.2 (omega (arith, length-flat c.args.entries.now c.requires.full, inv.1)) inv.3
          c.loop-done-test.true (omega (arith, c.piece-count.ensures.few, inv.0)) (omega (arith, length-flat c.args.entries.now c.requires.full, c.requires.within)) c.piece-count.ensures.within
          (omega arith) refl c.put_into.ensures.content,
      λ k. is_some-set c.loop-done.entries i entry (c.put_into.ensures.held ∙ sym (inv.4 i ∙ c.requires.held i (omega arith) (omega (arith, c.loop-done-test.true)))) k ∙ inv.4 k,
    )

pub returns-clause-same : goal.returns-clause-same
returns-clause-same c pages = held_pages-same pages c.loop-done.entries c.args.entries.now c.loop-done.invariant.1 c.loop-done.invariant.4
