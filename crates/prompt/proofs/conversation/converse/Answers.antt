use Rattle.std.proofs.Common.{◌+◌, ◌-◌, arith}
use Rattle.prompt.proofs.InTurns.{all, begins, cut_at, ended_at, turned_at}
use Rattle.prompt.proofs.conversation.converse.Goals as goal

pub loop-init : goal.loop-init
loop-init g c = begins _ _ _ _ _ _ (omega arith)

pub returns-in-Ok-false : goal.returns-in-Ok-false
returns-in-Ok-false g c =
    ended_at _ _ _ _ _ _ c.turn.new.session _ (c.args.lines - (c.loop.counter + 1)) (omega (arith, c.loop-test.true)) _ _ _ _ _ c.in-Ok-false.field-0-test c.loop.invariant c.in-Ok-false.ensures

pub returns-in-Err : goal.returns-in-Err
returns-in-Err g c =
    cut_at _ _ _ _ _ _ c.turn.new.session _ (c.args.lines - (c.loop.counter + 1)) (omega (arith, c.loop-test.true)) _ _ _ _ c.in-Err.fail c.loop.invariant c.in-Err.ensures

pub loop-preserved : goal.loop-preserved
loop-preserved g c =
    turned_at _ _ _ _ _ _ c.turn.new.session _ (c.args.lines - (c.loop.counter + 1)) (omega (arith, c.loop-test.true)) _ _ _ _ _ c.in-Ok-true.field-0-test c.loop.invariant c.in-Ok-true.ensures

pub returns : goal.returns
returns g c = all _ _ _ _ _ _ _ (omega (arith, c.loop-test.false)) _ _ c.loop.invariant
