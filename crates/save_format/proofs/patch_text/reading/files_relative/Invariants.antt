use Rattle.std.proofs.Common.{◌≡◌, ◌≤◌, ◌-◌, drop, length, map}
use Rattle.save_format.specs.ByteFields.Reader.{counted, several}
use Rattle.save_format.proofs.ByteFieldsLemmas.Loop.{with_prefix}
use Rattle.save_format.specs.StateText.Seen.{file_view}
use Rattle.save_format.specs.PatchText.Inside.Walking.{Rises, SameFrom}
use Rattle.save_format.specs.PatchText.PatchText.{patched_file_at}
use Rattle.save_format.specs.StateText.StateText.{after_file}
use Rattle.save_format.proofs.PatchTextLemmas.Listing.{file_number}
use Rattle.save_format.proofs.patch_text.reading.files_relative.Given as goal

abbrev pub invariant-loop : goal.invariant-loop
invariant-loop l = record {
  at : l.at ≤ length l.base;
  rises : Rises file_number l.least (map file_view (drop l.at l.base));
  same : SameFrom file_number l.least (map file_view l.base) (map file_view (drop l.at l.base));
  read : with_prefix (map file_view l.files.items) (several (patched_file_at (map file_view l.base)) after_file l.least (l.count - l.counter) l.cursor) ≡ counted (patched_file_at (map file_view l.base)) after_file 0 l.fn.cursor;
}
