use Rattle.std.proofs.Common.{◌+◌, ◌∙◌, arith}
use Rattle.save_format.proofs.PatchTextLemmas.Walked.{head_at, rises_after, rises_to, same_after}
use Rattle.save_format.proofs.patch_text.numbered.from_number.Goals as goal

pub loop-index-preserved : goal.loop-index-preserved
loop-index-preserved g c =
    let e = head_at c.args.items.now c.loop-index.index c.index-items-index.result c.loop-index-test.true c.index-items-index.is in
    let low = g.T.Numbered.number_of (g.T.Numbered.seen c.index-items-index.result) in
    let same = same_after g.T.Numbered.number_of g.T.Numbered.seen _ _ c.index-items-index.result c.args.number e (omega (arith, c.if-number.false, c.number.ensures)) in
    record {
      within = omega (arith, c.loop-index-test.true);
      rises = rises_to g.T.Numbered.number_of g.T.Numbered.seen (low + 1) 0 _ (omega arith) (rises_after g.T.Numbered.number_of g.T.Numbered.seen _ _ c.index-items-index.result 0 e c.loop-index.invariant.rises);
      same = λ k le. same k le ∙ c.loop-index.invariant.same k le;
    }
