use Rattle.std.proofs.Common.{◌≡◌, take}
use Rattle.audit_run.proofs.stage.reporting.put_copies.Given as goal

abbrev pub invariant-loop-line : goal.invariant-loop-line
invariant-loop-line l = l.copy ≡ take l.line-index l.lines
