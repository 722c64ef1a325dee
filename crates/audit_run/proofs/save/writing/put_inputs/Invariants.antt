use Rattle.std.proofs.Common.{◌≡◌, ◌++◌, length, map, take}
use Rattle.std.specs.List.{flat_map}
use Rattle.std.specs.Int.{w32}
use Rattle.save_format.specs.ByteFields.Spelling.{number_text}
use Rattle.save_format.specs.Encoded.{digest_text}
use Rattle.audit_run.specs.Save.Saves.{digest_of}
use Rattle.audit_run.proofs.save.writing.put_inputs.Given as goal

abbrev pub invariant-loop-input : goal.invariant-loop-input
invariant-loop-input l = l.out ≡ l.fn.out ++ (number_text w32 (length l.inputs) ++ flat_map digest_text (map digest_of (take l.input-index l.inputs)))
