use Rattle.std.proofs.Common.{◌≡◌, ◌++◌, length, take}
use Rattle.std.specs.List.{flat_map}
use Rattle.std.specs.Int.{w32}
use Rattle.save_format.specs.ByteFields.Spelling.{number_text}
use Rattle.save_format.specs.Encoded.{left_text}
use Rattle.save_format.proofs.fields.put_left.Given as goal

abbrev pub invariant-loop-file : goal.invariant-loop-file
invariant-loop-file l = l.out ≡ l.fn.out ++ (number_text w32 (length l.files) ++ flat_map left_text (take l.file-index l.files))
