use Rattle.std.proofs.Common.{◌≤◌, ◌-◌, ◌^◌, drop, length, map}
use Rattle.save_format.specs.StateText.Seen.{page_view}
use Rattle.save_format.specs.PatchText.Seen.{change_view}
use Rattle.save_format.specs.PatchText.PatchText.{changed_pages}
use Rattle.save_format.proofs.PatchTextLemmas.Combined.{no_page, page_from}
use Rattle.save_format.proofs.PatchTextLemmas.Merged.{Walks}
use Rattle.save_format.proofs.PatchTextLemmas.Pages.{change_number, page_number}
use Rattle.save_format.proofs.patch_text.merging.changed.Given as goal

abbrev pub invariant-loop-number : goal.invariant-loop-number
invariant-loop-number l = record {
  at : l.at ≤ length l.base;
  now : l.now ≤ length l.changes;
  walks : Walks page_number change_number page_from no_page (2 ^ 32) (map page_view l.base) (map change_view l.changes) (changed_pages (map page_view l.base) (map change_view l.changes)) (map page_view l.pages.items) (map page_view (drop l.at l.base)) (map change_view (drop l.now l.changes)) l.least;
}

abbrev pub decreases-loop-number : goal.decreases-loop-number
decreases-loop-number l = 2 ^ 32 - l.least
