use Rattle.std.proofs.Common.{◌≡◌, ◌≤◌, ◌++◌, drop, length, take, map}
use Rattle.std.specs.List.{flat_map}
use Rattle.std.specs.Int.{w32}
use Rattle.save_format.specs.ByteFields.Spelling.{number_text}
use Rattle.save_format.specs.StateText.Seen.{file_view}
use Rattle.save_format.specs.PatchText.Inside.Walking.{Rises, SameFrom}
use Rattle.save_format.specs.PatchText.Encoded.{patched_file_text}
use Rattle.save_format.proofs.PatchTextLemmas.Listing.{file_number}
use Rattle.save_format.proofs.patch_text.writing.add_files.Given as goal

abbrev pub invariant-loop-file : goal.invariant-loop-file
invariant-loop-file l = record {
  at : l.at ≤ length l.base;
  rises : Rises file_number l.least (map file_view (drop l.at l.base));
  same : SameFrom file_number l.least (map file_view l.base) (map file_view (drop l.at l.base));
  turn : Rises file_number l.least (map file_view (drop l.file-index l.files));
  written : l.out ≡ l.fn.out ++ (number_text w32 (length l.files) ++ flat_map (patched_file_text (map file_view l.base)) (map file_view (take l.file-index l.files)));
}
