use Rattle.std.proofs.Common.{◌≤◌, ◌-◌, ◌^◌, drop, length, map}
use Rattle.save_format.specs.StateText.Seen.{page_view}
use Rattle.save_format.specs.PatchText.Seen.{change_view}
use Rattle.save_format.specs.PatchText.Encoded.{page_changes}
use Rattle.save_format.proofs.PatchTextLemmas.Combined.{change_from, no_change}
use Rattle.save_format.proofs.PatchTextLemmas.Merged.{Walks}
use Rattle.save_format.proofs.PatchTextLemmas.Pages.{page_number}
use Rattle.save_format.proofs.patch_text.merging.changes.Given as goal

abbrev pub invariant-loop-number : goal.invariant-loop-number
invariant-loop-number l = record {
  at : l.at ≤ length l.base;
  now : l.now ≤ length l.pages;
  walks : Walks page_number page_number change_from no_change (2 ^ 32) (map page_view l.base) (map page_view l.pages) (page_changes (map page_view l.base) (map page_view l.pages)) (map change_view l.found.items) (map page_view (drop l.at l.base)) (map page_view (drop l.now l.pages)) l.least;
}

abbrev pub decreases-loop-number : goal.decreases-loop-number
decreases-loop-number l = 2 ^ 32 - l.least
