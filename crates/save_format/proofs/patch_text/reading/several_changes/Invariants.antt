use Rattle.std.proofs.Common.{◌≡◌, ◌≤◌, ◌-◌, drop, length, map}
use Rattle.save_format.specs.ByteFields.Reader.{several}
use Rattle.save_format.proofs.ByteFieldsLemmas.Loop.{with_prefix}
use Rattle.save_format.specs.StateText.Seen.{page_view}
use Rattle.save_format.specs.PatchText.Inside.Walking.{Rises, SameFrom}
use Rattle.save_format.specs.PatchText.PatchText.{after_change, change_at}
use Rattle.save_format.specs.PatchText.Seen.{change_view}
use Rattle.save_format.proofs.PatchTextLemmas.Pages.{page_number}
use Rattle.save_format.proofs.patch_text.reading.several_changes.Given as goal

abbrev pub invariant-loop : goal.invariant-loop
invariant-loop l = record {
  at : l.at ≤ length l.base;
  rises : Rises page_number l.least (map page_view (drop l.at l.base));
  same : SameFrom page_number l.least (map page_view l.base) (map page_view (drop l.at l.base));
  read : with_prefix (map change_view l.changes.items) (several (change_at (map page_view l.base)) after_change l.least (l.count - l.counter) l.cursor) ≡ several (change_at (map page_view l.base)) after_change 0 l.count l.fn.cursor;
}
