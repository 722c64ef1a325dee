use Rattle.std.proofs.Common.{sym, ◌∙◌, arith}
use Rattle.audit_run.proofs.CheckLemmas.Others.{other-at, other-end, other-none}
use Rattle.audit_run.proofs.check.items.first_other_item.Goals as goal

pub returns-then-not-same_at : goal.returns-then-not-same_at
returns-then-not-same_at c =
    let inside = c.loop-index-test.true in
    let shorter = c.min-shorter.ensures in
    let ours = c.len.ensures.value in
    let theirs = c.len-2.ensures.value in
    sym (other-at _ _ c.loop-index.index c.loop-index.invariant (omega (arith, shorter, ours, inside)) (omega (arith, shorter, theirs, inside))
    (λ d. sym (c.same_at.ensures d) ∙ c.if-not-same_at.true))

pub returns-then-len : goal.returns-then-len
returns-then-len c =
    let same = c.if-len.true in
    sym (other-none _ _
    (λ i less. c.loop-index.invariant i (omega (arith, less, c.loop-index-test.false, c.min-shorter.ensures, c.len.ensures.value, c.len-2.ensures.value, c.len-3.ensures.value, c.len-4.ensures.value, same)))
    (omega (arith, same, c.len-3.ensures.value, c.len-4.ensures.value)))

pub returns-else-len : goal.returns-else-len
returns-else-len c =
    sym (other-end _ _ c.min-shorter.result (λ i less. c.loop-index.invariant i (omega (arith, less, c.loop-index-test.false)))
    (omega (arith, c.min-shorter.ensures, c.len.ensures.value, c.len-2.ensures.value))
    (λ same. c.if-len.false (omega (arith, same, c.len-3.ensures.value, c.len-4.ensures.value))))
