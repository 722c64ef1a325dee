use Rattle.std.proofs.Common.{◌≡◌, ◌++◌, ◌^◌, ℕ, List, [], drop, map, option_map, sym, ap, ap₂, ◌∙◌, arith}
use Rattle.std.specs.Option.{option_copied}
use Rattle.save_format.specs.StateText.StateText.{PageText}
use Rattle.save_format.specs.StateText.Seen.{page_view}
use Rattle.save_format.specs.PatchText.Numbered.{item_numbered, with_item}
use Rattle.save_format.specs.PatchText.PatchText.{PageChange, changed_pages, bytes_changed_by, page_of}
use Rattle.save_format.specs.PatchText.Seen.{change_view}
use Rattle.save_format.proofs.PatchTextLemmas.Combined.{bytes_seen, no_page, page_from, put_after, put_nothing}
use Rattle.save_format.proofs.PatchTextLemmas.Merged.{begins, ends_there, first_seen, next_is, steps_on}
use Rattle.save_format.proofs.PatchTextLemmas.Pages.{change_number, page_number, pages_rise}
use Rattle.save_format.proofs.patch_text.merging.changed.Goals as goal
use Rattle.save_format.proofs.patch_text.merging.changed.Goals.{in-Some-made_of+in_ok-push, in_default-made_of}

pub loop-number-init : goal.loop-number-init
unfolding changed_pages
loop-number-init c = record {
  at = omega arith;
  now = omega arith;
  walks = rw c.new-pages.ensures.items (begins page_number change_number page_from no_page (2 ^ 32) (map page_view c.args.base.now) (map change_view c.args.changes.now) (pages_rise 0 _ c.requires.base) c.requires.changes);
}

pub loop-number-preserved : goal.loop-number-preserved
loop-number-preserved c =
    let w = c.loop-number.invariant.walks in
    let n : ℕ = c.in-Some.number in
    let xs : List PageText = map page_view (drop c.loop-number.at c.args.base.now) in
    let ys : List PageChange = map change_view (drop c.loop-number.now c.args.changes.now) in
    let next = next_is page_number change_number page_from no_page (2 ^ 32) xs ys c.first_number.result c.first_number-in-loop-number.result c.loop-number.least n w.rises_a w.rises_b
    (first_seen page_number page_view (drop c.loop-number.at c.args.base.now) c.first_number.result c.first_number.ensures)
    (first_seen change_number change_view (drop c.loop-number.now c.args.changes.now) c.first_number-in-loop-number.result c.first_number-in-loop-number.ensures) c.in-Some.ensures in
    let made : page_of n (option_copied c.made_of.result) ≡ page_from n (item_numbered page_number xs n) (item_numbered change_number ys n) =
    ap (page_of n) (c.made_of.ensures
    ∙ ap₂ bytes_changed_by (bytes_seen c.taken-later.result.0 ∙ ap (option_map (λ (page : PageText). page.bytes)) c.taken-later.ensures.here) c.taken-later_now.ensures.here) in
    let after : map page_view c.match-made_of.pages.items ≡ map page_view c.loop-number.pages.items ++ with_item (page_from n (item_numbered page_number xs n) (item_numbered change_number ys n)) [] =
    elim c.match-made_of.branch [
      | in-Some-made_of+in_ok-push w ↦ put_after page_view c.loop-number.pages.items c.match-made_of.pages.items _ _ (ap (λ v. v.items) w.pages-is ∙ w.in_ok-push.ensures.items) (ap (λ o. page_of n (option_copied o)) (sym w.in-Some-made_of.is) ∙ made)
      | in_default-made_of w ↦ put_nothing page_view c.loop-number.pages.items c.match-made_of.pages.items _ (ap (λ v. v.items) w.pages-is) (ap (λ o. page_of n (option_copied o)) (sym w.in_default-made_of.is) ∙ made)
    ] in
    let walks = steps_on page_number change_number page_from no_page (2 ^ 32) _ _ _ _ _ xs (map page_view (drop c.taken-later.result.1 c.args.base.now)) ys (map change_view (drop c.taken-later_now.result.1 c.args.changes.now)) c.loop-number.least n
    (omega (arith, c.from-least.ensures)) next w c.taken-later.ensures.rises c.taken-later.ensures.same c.taken-later_now.ensures.rises c.taken-later_now.ensures.same after in
    record {
      at = c.taken-later.ensures.within;
      now = c.taken-later_now.ensures.within;
      walks = rw c.from-least.ensures walks;
    }

pub returns : goal.returns
returns c =
    let w = c.loop-number.invariant.walks in
    ends_there page_number change_number page_from no_page (2 ^ 32) _ _ _ _ _ _ c.loop-number.least c.first_number.result c.first_number-in-loop-number.result w
    (first_seen page_number page_view (drop c.loop-number.at c.args.base.now) c.first_number.result c.first_number.ensures)
    (first_seen change_number change_view (drop c.loop-number.now c.args.changes.now) c.first_number-in-loop-number.result c.first_number-in-loop-number.ensures) c.in_default.ensures
