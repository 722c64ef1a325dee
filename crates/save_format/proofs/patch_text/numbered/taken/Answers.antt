use Rattle.std.proofs.Common.{sym, arith}
use Rattle.save_format.proofs.PatchTextLemmas.Walked.{head_at, none_here}
use Rattle.save_format.proofs.patch_text.numbered.taken.Goals as goal

pub returns-else-number-clause-here : goal.returns-else-number-clause-here
returns-else-number-clause-here g c =
    let look = c.in-Some.ensures.lookup in
    let e = head_at c.args.items.now c.args.index c.in-Some.item.now look.3.0 look.1 in
    sym (none_here g.T.Numbered.number_of g.T.Numbered.seen _ _ c.in-Some.item.now c.args.number e c.requires.rises (λ f. omega (arith, c.if-number.false, c.number.ensures, f)))
