use Rattle.std.proofs.Common.{◌≡◌, ◌+◌, drop}
use Rattle.audit_rules.specs.Stages.{artefact_bytes}
use Rattle.audit_run.proofs.save.judging.remaining_after.Given as goal

abbrev pub invariant-loop-stage : goal.invariant-loop-stage
invariant-loop-stage l = l.most + artefact_bytes (drop l.stage-index l.done) ≡ l.remaining + artefact_bytes l.done
