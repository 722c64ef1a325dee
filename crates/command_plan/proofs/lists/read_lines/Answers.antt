use Rattle.std.proofs.Common.{sym, ap, ◌∙◌, arith}
use Rattle.command_plan.proofs.Listing.{no_item, one_more, too_many}
use Rattle.command_plan.proofs.lists.read_lines.Goals as goal

pub returns-then-number-most-clause-value : goal.returns-then-number-most-clause-value
returns-then-number-most-clause-value g c =
    too_many g.T.Listed.form c.args.most c.loop-line.items c.in-Some.line.now c.in-Some.after.now _ c.loop-line.rest.now c.len.result c.loop-line.invariant.0 c.in-Some.ensures.lines
    c.len.ensures c.if-number-most.true

pub returns-in-None-clause-value : goal.returns-in-None-clause-value
returns-in-None-clause-value g c =
    no_item g.T.Listed.form c.args.most c.loop-line.items c.in-Some.line.now c.in-Some.after.now _ c.loop-line.rest.now c.len.result c.loop-line.invariant.0 c.in-Some.ensures.lines
    c.len.ensures (omega (arith, c.if-number-most.false))
    (ap (λ l. g.T.Listed.form l c.in-Some.line.now) (sym c.as_slice.ensures) ∙ sym c.in_ok-item.ensures ∙ c.in-None.is)

pub loop-line-preserved : goal.loop-line-preserved
loop-line-preserved g c =
    one_more g.T.Listed.form c.args.most c.loop-line.items c.in-Some.line.now c.in-Some.after.now _ c.loop-line.rest.now c.len.result c.in-Some-2.item c.push.new.self
    c.loop-line.invariant.0 c.in-Some.ensures.lines c.len.ensures (omega (arith, c.if-number-most.false))
    (ap (λ l. g.T.Listed.form l c.in-Some.line.now) (sym c.as_slice.ensures) ∙ sym c.in_ok-item.ensures ∙ c.in-Some-2.is) c.in_ok-push-in-Some-2.ensures.ok
