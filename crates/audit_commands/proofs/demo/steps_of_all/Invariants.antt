use Rattle.std.proofs.Common.{◌≡◌, ◌+◌, ◌*◌, ◌-◌, ◌^◌, ◌≤◌, drop, sum_by}
use Rattle.audit_commands.proofs.demo.steps_of_all.Given as goal

abbrev pub invariant-loop-stage : goal.invariant-loop-stage
invariant-loop-stage l =
    (l.total + sum_by (λ stage. stage.steps) (drop l.stage-index l.fn.stages) ≡ sum_by (λ stage. stage.steps) l.fn.stages)
    × (l.total ≤ l.stage-index * (2 ^ 64 - 1))
