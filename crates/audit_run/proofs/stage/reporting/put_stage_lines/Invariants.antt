use Rattle.std.proofs.Common.{◌≡◌, ◌++◌, drop}
use Rattle.audit_rules.specs.Bench.{stage_lines}
use Rattle.audit_run.proofs.stage.reporting.put_stage_lines.Given as goal

abbrev pub invariant-loop-index : goal.invariant-loop-index
invariant-loop-index l = l.lines ++ stage_lines l.recipe (drop l.index l.stages) (drop l.index l.done) ≡ stage_lines l.recipe l.stages l.done
