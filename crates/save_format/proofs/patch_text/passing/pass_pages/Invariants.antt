use Rattle.std.proofs.Common.{◌≤◌, ◌-◌, drop, length, map}
use Rattle.save_format.specs.ByteFields.Reader.{counted}
use Rattle.save_format.proofs.ByteFieldsLemmas.Loop.{Went}
use Rattle.save_format.specs.StateText.Seen.{page_view}
use Rattle.save_format.specs.PatchText.Inside.Walking.{Rises, SameFrom}
use Rattle.save_format.specs.PatchText.PatchText.{after_change, change_at}
use Rattle.save_format.proofs.PatchTextLemmas.Pages.{page_number}
use Rattle.save_format.proofs.patch_text.passing.pass_pages.Given as goal

abbrev pub invariant-loop : goal.invariant-loop
invariant-loop l = record {
  at : l.at ≤ length l.base;
  rises : Rises page_number l.least (map page_view (drop l.at l.base));
  same : SameFrom page_number l.least (map page_view l.base) (map page_view (drop l.at l.base));
  went : Went (change_at (map page_view l.base)) after_change l.least (l.count - l.counter) l.cursor (counted (change_at (map page_view l.base)) after_change 0 l.fn.cursor);
}
