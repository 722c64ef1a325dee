use Rattle.std.proofs.Common.{◌≡◌, ◌++◌, length, take, map}
use Rattle.std.specs.List.{flat_map}
use Rattle.std.specs.Int.{w32}
use Rattle.save_format.specs.ByteFields.Spelling.{number_text}
use Rattle.save_format.specs.PatchText.Seen.{change_view}
use Rattle.save_format.specs.PatchText.Encoded.{change_text}
use Rattle.save_format.proofs.patch_text.writing.put_changes.Given as goal

abbrev pub invariant-loop-change : goal.invariant-loop-change
invariant-loop-change l = l.out ≡ l.fn.out ++ (number_text w32 (length l.changes) ++ flat_map change_text (map change_view (take l.change-index l.changes)))
