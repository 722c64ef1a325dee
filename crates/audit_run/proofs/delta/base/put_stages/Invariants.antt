use Rattle.std.proofs.Common.{◌≡◌, ◌++◌, length, map, take}
use Rattle.std.specs.List.{flat_map}
use Rattle.std.specs.Int.{w32}
use Rattle.save_format.specs.ByteFields.Spelling.{number_text}
use Rattle.save_format.specs.Seen.{stage_view}
use Rattle.save_format.specs.Encoded.{stage_text}
use Rattle.audit_run.proofs.delta.base.put_stages.Given as goal

abbrev pub invariant-loop-stage : goal.invariant-loop-stage
invariant-loop-stage l = l.out ≡ l.fn.out ++ (number_text w32 (length l.stages) ++ flat_map stage_text (map stage_view (take l.stage-index l.stages)))
