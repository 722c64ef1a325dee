use Rattle.std.proofs.Common.{sym}
use Rattle.std.proofs.lemmas.Result.{err_from_is_err_and}
use Rattle.save_format.proofs.ByteFieldsLemmas.Loop.{sets_out, went_on, went_past, went_wrong}
use Rattle.save_format.proofs.byte_fields.item.pass_counted.Goals as goal

pub loop-init : goal.loop-init
loop-init g c = rw c.in_ok-count.ensures (sets_out g.T.TextItem.read_from g.T.TextItem.next_least 0 c.in_ok-count.count _)

pub returns-in_err-item : goal.returns-in_err-item
returns-in_err-item g c =
    let p = err_from_is_err_and c.from_residual-in_err-item.result c.from_residual-in_err-item.ensures.1 in
    rw (p.1, p.2) (went_wrong g.T.TextItem.read_from g.T.TextItem.next_least c.loop.least c.in_err-item.field-0.0.remaining c.in_ok-count.count c.loop.counter c.loop.cursor _ c.loop-test.true c.in_err-item.ensures c.loop.invariant)

pub loop-preserved : goal.loop-preserved
loop-preserved g c = went_on g.T.TextItem.read_from g.T.TextItem.next_least c.loop.least _ c.in_ok-count.count c.loop.counter c.loop.cursor (g.T.TextItem.seen c.in_ok-item.item) c.take.new.cursor _ c.loop-test.true c.in_ok-item.ensures (sym c.least_after-least.ensures) c.loop.invariant

pub returns : goal.returns
returns g c = went_past g.T.TextItem.read_from g.T.TextItem.next_least c.loop.least c.in_ok-count.count c.loop.counter c.loop.cursor _ c.loop-test.false c.loop.invariant
