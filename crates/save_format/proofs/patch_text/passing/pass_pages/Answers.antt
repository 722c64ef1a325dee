use Rattle.std.proofs.Common.{Ok, ◌≤◌, ◌+◌, drop, map, refl, sym, ap, ◌∙◌, arith}
use Rattle.std.proofs.lemmas.Result.{err_from_is_err_and}
use Rattle.save_format.proofs.ByteFieldsLemmas.Loop.{past_on, sets_out, went_on, went_past, went_wrong}
use Rattle.save_format.specs.StateText.Seen.{page_view}
use Rattle.save_format.specs.PatchText.PatchText.{after_change, change_at, changed_pages, changed_pages_at}
use Rattle.save_format.specs.PatchText.Seen.{change_view}
use Rattle.save_format.proofs.PatchTextLemmas.Listing.{change_alike, change_from_least}
use Rattle.save_format.proofs.PatchTextLemmas.Pages.{page_number, pages_rise}
use Rattle.save_format.proofs.PatchTextLemmas.Rising.{rises_lower}
use Rattle.save_format.proofs.patch_text.passing.pass_pages.Goals as goal

pub loop-init : goal.loop-init
loop-init c = record {
  at = omega arith;
  rises = pages_rise 0 (map page_view c.args.base.now) c.requires;
  same = λ k le. refl;
  went = rw c.in_ok-count.ensures (sets_out (change_at (map page_view c.args.base.now)) after_change 0 c.in_ok-count.count _);
}

pub change_of-requires-clause-rises : goal.change_of-requires-clause-rises
change_of-requires-clause-rises c = rises_lower page_number c.loop.least 0 _ (omega arith) c.loop.invariant.rises

pub returns-in_err-change : goal.returns-in_err-change
unfolding changed_pages_at
returns-in_err-change c =
    let p = err_from_is_err_and c.from_residual-in_err-change.result c.from_residual-in_err-change.ensures.1 in
    rw (
      p.1,
      p.2,
      went_wrong (change_at (map page_view c.args.base.now)) after_change c.loop.least c.in_err-change.field-0.0.remaining c.in_ok-count.count c.loop.counter c.loop.cursor _ c.loop-test.true
          (sym (change_alike (map page_view c.args.base.now) (map page_view (drop c.loop.at c.args.base.now)) c.loop.least c.loop.cursor c.loop.invariant.same) ∙ c.in_err-change.ensures.read) c.loop.invariant.went,
    ) refl

pub loop-preserved : goal.loop-preserved
loop-preserved c =
    let read = sym (change_alike (map page_view c.args.base.now) (map page_view (drop c.loop.at c.args.base.now)) c.loop.least c.loop.cursor c.loop.invariant.same) ∙ c.in_ok-change.ensures.read in
    let low : c.loop.least ≤ c.in_ok-change.change.number = change_from_least (map page_view c.args.base.now) c.loop.least c.loop.cursor (change_view c.in_ok-change.change) c.change_of.new.cursor read in
    record {
      at = c.in_ok-change.ensures.within;
      rises = rw c.from-least.ensures c.in_ok-change.ensures.rises;
      same = λ k le. c.in_ok-change.ensures.same k (omega (arith, le, c.from-least.ensures)) ∙ c.loop.invariant.same k (omega (arith, le, low, c.from-least.ensures));
      went = went_on (change_at (map page_view c.args.base.now)) after_change c.loop.least _ c.in_ok-count.count c.loop.counter c.loop.cursor (change_view c.in_ok-change.change) c.change_of.new.cursor _ c.loop-test.true read (ap (λ n. n + 1) (sym c.from-least.ensures)) c.loop.invariant.went;
    }

pub returns : goal.returns
unfolding changed_pages_at
returns c =
    past_on (changed_pages (map page_view c.args.base.now)) (Ok tt) c.loop.cursor _
    (went_past (change_at (map page_view c.args.base.now)) after_change c.loop.least c.in_ok-count.count c.loop.counter c.loop.cursor _ c.loop-test.false c.loop.invariant.went)
