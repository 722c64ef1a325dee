use Rattle.std.proofs.Common.{◌≡◌, ◌++◌, ◌^◌, ℕ, List, [], drop, map, option_map, sym, ap, ap₂, ◌∙◌, arith}
use Rattle.save_format.specs.StateText.StateText.{PageText}
use Rattle.save_format.specs.StateText.Seen.{page_view}
use Rattle.save_format.specs.PatchText.Numbered.{item_numbered, with_item}
use Rattle.save_format.specs.PatchText.Seen.{change_view}
use Rattle.save_format.specs.PatchText.Encoded.{page_change_of, page_changes}
use Rattle.save_format.proofs.PatchTextLemmas.Combined.{bytes_seen, change_from, no_change, put_after, put_nothing}
use Rattle.save_format.proofs.PatchTextLemmas.Merged.{begins, ends_there, first_seen, next_is, steps_on}
use Rattle.save_format.proofs.PatchTextLemmas.Pages.{page_number, pages_rise}
use Rattle.save_format.proofs.patch_text.merging.changes.Goals as goal
use Rattle.save_format.proofs.patch_text.merging.changes.Goals.{in-Some-change_of+in_ok-push, in_default-change_of}

pub loop-number-init : goal.loop-number-init
unfolding page_changes
loop-number-init c = record {
  at = omega arith;
  now = omega arith;
  walks = rw c.new-found.ensures.items (begins page_number page_number change_from no_change (2 ^ 32) (map page_view c.args.base.now) (map page_view c.args.pages.now) (pages_rise 0 _ c.requires.base) (pages_rise 0 _ c.requires.pages));
}

pub loop-number-smaller : goal.loop-number-smaller
loop-number-smaller c =
    let w = c.loop-number.invariant.walks in
    let xs : List PageText = map page_view (drop c.loop-number.at c.args.base.now) in
    let ys : List PageText = map page_view (drop c.loop-number.now c.args.pages.now) in
    let next = next_is page_number page_number change_from no_change (2 ^ 32) xs ys c.first_number.result c.first_number-in-loop-number.result c.loop-number.least c.in-Some.number w.rises_a w.rises_b
    (first_seen page_number page_view (drop c.loop-number.at c.args.base.now) c.first_number.result c.first_number.ensures)
    (first_seen page_number page_view (drop c.loop-number.now c.args.pages.now) c.first_number-in-loop-number.result c.first_number-in-loop-number.ensures) c.in-Some.ensures in
    omega (arith, next.from, c.from-least.ensures, w.low)

pub loop-number-preserved : goal.loop-number-preserved
loop-number-preserved c =
    let w = c.loop-number.invariant.walks in
    let n : ℕ = c.in-Some.number in
    let xs : List PageText = map page_view (drop c.loop-number.at c.args.base.now) in
    let ys : List PageText = map page_view (drop c.loop-number.now c.args.pages.now) in
    let next = next_is page_number page_number change_from no_change (2 ^ 32) xs ys c.first_number.result c.first_number-in-loop-number.result c.loop-number.least n w.rises_a w.rises_b
    (first_seen page_number page_view (drop c.loop-number.at c.args.base.now) c.first_number.result c.first_number.ensures)
    (first_seen page_number page_view (drop c.loop-number.now c.args.pages.now) c.first_number-in-loop-number.result c.first_number-in-loop-number.ensures) c.in-Some.ensures in
    let made : option_map change_view c.change_of.result ≡ change_from n (item_numbered page_number xs n) (item_numbered page_number ys n) =
    c.change_of.ensures
    ∙ ap₂ (page_change_of n) (bytes_seen c.taken-later.result.0 ∙ ap (option_map (λ (page : PageText). page.bytes)) c.taken-later.ensures.here)
    (bytes_seen c.taken-later_now.result.0 ∙ ap (option_map (λ (page : PageText). page.bytes)) c.taken-later_now.ensures.here) in
    let after : map change_view c.match-change_of.found.items ≡ map change_view c.loop-number.found.items ++ with_item (change_from n (item_numbered page_number xs n) (item_numbered page_number ys n)) [] =
    elim c.match-change_of.branch [
      | in-Some-change_of+in_ok-push w ↦ put_after change_view c.loop-number.found.items c.match-change_of.found.items _ _ (ap (λ v. v.items) w.found-is ∙ w.in_ok-push.ensures.items) (ap (option_map change_view) (sym w.in-Some-change_of.is) ∙ made)
      | in_default-change_of w ↦ put_nothing change_view c.loop-number.found.items c.match-change_of.found.items _ (ap (λ v. v.items) w.found-is) (ap (option_map change_view) (sym w.in_default-change_of.is) ∙ made)
    ] in
    let walks = steps_on page_number page_number change_from no_change (2 ^ 32) _ _ _ _ _ xs (map page_view (drop c.taken-later.result.1 c.args.base.now)) ys (map page_view (drop c.taken-later_now.result.1 c.args.pages.now)) c.loop-number.least n
    (omega (arith, c.from-least.ensures)) next w c.taken-later.ensures.rises c.taken-later.ensures.same c.taken-later_now.ensures.rises c.taken-later_now.ensures.same after in
    record {
      at = c.taken-later.ensures.within;
      now = c.taken-later_now.ensures.within;
      walks = rw c.from-least.ensures walks;
    }

pub returns : goal.returns
returns c =
    let w = c.loop-number.invariant.walks in
    ends_there page_number page_number change_from no_change (2 ^ 32) _ _ _ _ _ _ c.loop-number.least c.first_number.result c.first_number-in-loop-number.result w
    (first_seen page_number page_view (drop c.loop-number.at c.args.base.now) c.first_number.result c.first_number.ensures)
    (first_seen page_number page_view (drop c.loop-number.now c.args.pages.now) c.first_number-in-loop-number.result c.first_number-in-loop-number.ensures) c.in_default.ensures
