use Rattle.std.proofs.Common.{◌≡◌, map, take}
use Rattle.audit_rules.specs.Bench.{compare_line}
use Rattle.audit_rules.specs.Stages.{contents}
use Rattle.audit_run.proofs.stage.reporting.compare_lines.Given as goal

abbrev pub invariant-loop-stage : goal.invariant-loop-stage
invariant-loop-stage l = l.lines ≡ map (compare_line l.recipe (contents l.inputs l.done)) (take l.stage-index l.stages)
