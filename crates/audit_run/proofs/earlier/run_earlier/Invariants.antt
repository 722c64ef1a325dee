use Rattle.std.proofs.Common.{◌≡◌, [], length, drop, take}
use Rattle.audit_run.specs.Earlier.{done_in_order}
use Rattle.audit_rules.specs.Valid.{AreDone}
use Rattle.audit_run.proofs.earlier.run_earlier.Given as goal

-- so many stages are done, and what follows them is what follows in all
abbrev pub invariant-loop-stage : goal.invariant-loop-stage
invariant-loop-stage l =
    (length l.done ≡ l.stage-index) × AreDone l.recipe l.done
    × (done_in_order l.recipe l.inputs l.done (drop l.stage-index (take l.count l.recipe.stages)) ≡ done_in_order l.recipe l.inputs [] (take l.count l.recipe.stages))
