use Rattle.std.proofs.Common.{◌≡◌, map}
use Rattle.save_format.specs.Seen.{stage_view}
use Rattle.audit_run.specs.Save.Saves.{finished_of}
use Rattle.audit_run.proofs.save.reading.done_of.Given as goal

abbrev pub invariant-loop-part : goal.invariant-loop-part
invariant-loop-part l = l.done.items ≡ map (λ part. finished_of (stage_view part)) l.yielded
