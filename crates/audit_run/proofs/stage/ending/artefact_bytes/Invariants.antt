use Rattle.std.proofs.Common.{◌≡◌, ◌+◌, drop}
use Rattle.audit_rules.specs.Stages.{artefact_bytes}
use Rattle.audit_run.proofs.stage.ending.artefact_bytes.Given as goal

abbrev pub invariant-loop-stage : goal.invariant-loop-stage
invariant-loop-stage l = l.total + artefact_bytes (drop l.stage-index l.done) ≡ artefact_bytes l.fn.done
