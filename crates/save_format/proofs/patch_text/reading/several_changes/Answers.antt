use Rattle.std.proofs.Common.{◌≡◌, ◌≤◌, ◌+◌, ◌++◌, ◌∷◌, [], drop, map, sym, ap, ◌∙◌, arith}
use Rattle.std.proofs.lemmas.Result.{err_from_is_err_and}
use Rattle.std.proofs.lemmas.List.{map_push}
use Rattle.save_format.proofs.ByteFieldsLemmas.Loop.{goes_on, is_done, stops}
use Rattle.save_format.specs.StateText.Seen.{page_view}
use Rattle.save_format.specs.PatchText.PatchText.{after_change, change_at}
use Rattle.save_format.specs.PatchText.Seen.{change_view}
use Rattle.save_format.proofs.PatchTextLemmas.Listing.{change_alike, change_from_least}
use Rattle.save_format.proofs.PatchTextLemmas.Pages.{page_number}
use Rattle.save_format.proofs.PatchTextLemmas.Rising.{rises_lower}
use Rattle.save_format.proofs.patch_text.reading.several_changes.Goals as goal

pub change_of-requires-clause-rises : goal.change_of-requires-clause-rises
change_of-requires-clause-rises c = rises_lower page_number c.loop.least 0 _ (omega arith) c.loop.invariant.rises

pub returns-in_err-change : goal.returns-in_err-change
returns-in_err-change c =
    let p = err_from_is_err_and c.from_residual.result c.from_residual.ensures.1 in
    rw (p.1, p.2) (stops (change_at (map page_view c.args.base.now)) after_change c.loop.least c.in_err-change.field-0.0.remaining (map change_view c.loop.changes.items) c.args.count c.loop.counter c.loop.cursor _ c.loop-test.true
    (sym (change_alike (map page_view c.args.base.now) (map page_view (drop c.loop.at c.args.base.now)) c.loop.least c.loop.cursor c.loop.invariant.same) ∙ c.in_err-change.ensures.read) c.loop.invariant.read)

pub loop-preserved : goal.loop-preserved
loop-preserved c =
    let more : map change_view c.push.new.self.items ≡ map change_view c.loop.changes.items ++ change_view c.in_ok-change.change ∷ [] = rw c.in_ok-push.ensures.items (map_push _ c.loop.changes.items c.in_ok-change.change) in
    let read = sym (change_alike (map page_view c.args.base.now) (map page_view (drop c.loop.at c.args.base.now)) c.loop.least c.loop.cursor c.loop.invariant.same) ∙ c.in_ok-change.ensures.read in
    let low : c.loop.least ≤ c.in_ok-change.change.number = change_from_least (map page_view c.args.base.now) c.loop.least c.loop.cursor (change_view c.in_ok-change.change) c.change_of.new.cursor read in
    record {
      at = c.in_ok-change.ensures.within;
      rises = rw c.from-least.ensures c.in_ok-change.ensures.rises;
      same = λ k le. c.in_ok-change.ensures.same k (omega (arith, le, c.from-least.ensures)) ∙ c.loop.invariant.same k (omega (arith, le, low, c.from-least.ensures));
      read = rw more (goes_on (change_at (map page_view c.args.base.now)) after_change c.loop.least _ (map change_view c.loop.changes.items) c.args.count c.loop.counter c.loop.cursor (change_view c.in_ok-change.change) c.change_of.new.cursor _ c.loop-test.true read (ap (λ n. n + 1) (sym c.from-least.ensures)) c.loop.invariant.read);
    }

pub returns : goal.returns
returns c = is_done (change_at (map page_view c.args.base.now)) after_change c.loop.least (map change_view c.loop.changes.items) c.args.count c.loop.counter c.loop.cursor _ c.loop-test.false c.loop.invariant.read
