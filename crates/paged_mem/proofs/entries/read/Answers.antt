use Rattle.std.proofs.Common.{◌+◌, ◌-◌, length, drop, arith, sym, ◌∙◌, length-take, length-drop}
use Rattle.paged_mem.proofs.Flats.{read_more, length-flat}
use Rattle.std.proofs.lemmas.Grind.{same_number_lists}
use Rattle.std.proofs.lemmas.List.{get_or-take, get_or-drop}
use Rattle.paged_mem.specs.Inside.Entries.{flat}
use Rattle.paged_mem.proofs.entries.read.Goals as goal

pub loop-done-preserved : goal.loop-done-preserved
loop-done-preserved c =
    let inv = c.loop-done.invariant in
    let more = read_more c.args.entries.now c.loop-done.out c.fill_from.new.out c.args.start c.loop-done.done c.piece-count.result
    (c.loop-done.done + c.piece-count.result - c.loop-done.done) c.index-entries-at.result c.requires.full
    (omega (arith, inv.1, c.requires.within)) c.loop-done-test.true (omega (arith, c.piece-count.ensures.few, inv.0)) c.piece-count.ensures.within (omega arith)
    c.index-entries-at.is c.fill_from.ensures inv.2 in
    (omega (arith, more.0, c.piece-count.ensures.few, inv.0), more.0 ∙ inv.1, more.1)

pub returns : goal.returns
returns c =
    let inv = c.loop-done.invariant in
    let long = length-flat c.args.entries.now c.requires.full in
    same_number_lists _ _
    (omega (arith, inv.1, long, c.requires.within, length-take (length c.args.out.now) (drop c.args.start (flat c.args.entries.now)), length-drop c.args.start (flat c.args.entries.now)))
    (λ k below.
    inv.2 k (omega (arith, c.loop-done-test.false))
    ∙ sym (get_or-take (length c.args.out.now) (drop c.args.start (flat c.args.entries.now)) k 0 (omega (arith, inv.1)) ∙ get_or-drop c.args.start (flat c.args.entries.now) k 0))
