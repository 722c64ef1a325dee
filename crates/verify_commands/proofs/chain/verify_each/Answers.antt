use Rattle.command_plan.proofs.Obtaining.{ends_with}
use Rattle.verify_commands.proofs.Chaining.{all_done, audit_ends, audit_more, audit_wants}
use Rattle.verify_commands.proofs.chain.verify_each.Goals as goal

pub returns-in_err-link : goal.returns-in_err-link
returns-in_err-link g c =
    ends_with c.from_residual.ensures.1
    (audit_ends _ _ _ c.args.pairs.now c.loop-index.links c.loop-index.budget c.loop-index.index c.index-pairs-index.result c.loop-index.invariant.0 c.loop-index.invariant.1 c.loop-index-test.true
    c.index-pairs-index.is _ _ c.in_err-link.ensures)

pub returns-in_err-push : goal.returns-in_err-push
returns-in_err-push g c =
    ends_with c.from_residual-in_err-push.ensures.1
    (audit_wants _ _ _ c.args.pairs.now c.loop-index.links c.loop-index.budget c.loop-index.index c.index-pairs-index.result c.loop-index.invariant.0 c.loop-index.invariant.1 c.loop-index-test.true
    c.index-pairs-index.is _ c.in_ok-link.link c.in_ok-link.ensures)

pub loop-index-preserved : goal.loop-index-preserved
loop-index-preserved g c =
    audit_more _ _ _ c.args.pairs.now c.loop-index.links c.loop-index.budget c.loop-index.index c.index-pairs-index.result c.loop-index.invariant.0 c.loop-index.invariant.1 c.loop-index-test.true
    c.index-pairs-index.is _ c.in_ok-link.link c.budget_after-budget.result c.push.new.self c.in_ok-link.ensures (rw c.as_slice.ensures at c.budget_after-budget.ensures) c.in_ok-push.ensures.ok

pub returns : goal.returns
returns g c =
    all_done _ _ _ c.args.pairs.now c.loop-index.links c.loop-index.budget c.loop-index.index c.loop-index.invariant.0 c.loop-index-test.false c.all_true.result c.all_true.ensures
