use Rattle.std.proofs.Common.{◌≡◌, ◌++◌, ◌∷◌, [], map, sym}
use Rattle.std.proofs.lemmas.Result.{err_from_is_err_and}
use Rattle.std.proofs.lemmas.List.{map_push}
use Rattle.save_format.proofs.ByteFieldsLemmas.Loop.{goes_on, is_done, stops}
use Rattle.save_format.proofs.byte_fields.item.items.Goals as goal

pub returns-in_err-item : goal.returns-in_err-item
returns-in_err-item g c =
    let p = err_from_is_err_and c.from_residual.result c.from_residual.ensures.1 in
    rw (p.1, p.2) (stops g.T.TextItem.read_from g.T.TextItem.next_least c.loop.least c.in_err-item.field-0.0.remaining (map g.T.TextItem.seen c.loop.items.items) c.args.count c.loop.counter c.loop.cursor _ c.loop-test.true c.in_err-item.ensures c.loop.invariant)

pub loop-preserved : goal.loop-preserved
loop-preserved g c =
    let more : map g.T.TextItem.seen c.push.new.self.items ≡ map g.T.TextItem.seen c.loop.items.items ++ g.T.TextItem.seen c.in_ok-item.item ∷ [] = rw c.in_ok-push.ensures.items (map_push _ c.loop.items.items c.in_ok-item.item) in
    rw more (goes_on g.T.TextItem.read_from g.T.TextItem.next_least c.loop.least _ (map g.T.TextItem.seen c.loop.items.items) c.args.count c.loop.counter c.loop.cursor (g.T.TextItem.seen c.in_ok-item.item) c.take.new.cursor _ c.loop-test.true c.in_ok-item.ensures (sym c.least_after-least.ensures) c.loop.invariant)

pub returns : goal.returns
returns g c = is_done g.T.TextItem.read_from g.T.TextItem.next_least c.loop.least (map g.T.TextItem.seen c.loop.items.items) c.args.count c.loop.counter c.loop.cursor _ c.loop-test.false c.loop.invariant
