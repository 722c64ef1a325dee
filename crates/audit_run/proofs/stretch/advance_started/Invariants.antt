use Rattle.std.proofs.Common.{◌≡◌, ◌-◌, ◌≤◌}
use Rattle.audit_rules.specs.Positions.{forward_from}
use Rattle.audit_run.specs.Inside.Parts.{IsPhaseAfter, IsStarted, current}
use Rattle.audit_run.proofs.stretch.advance_started.Given as goal

abbrev pub invariant-loop-remaining : goal.invariant-loop-remaining
invariant-loop-remaining l = (l.remaining ≤ l.fn.most)
    × IsStarted l.course.phase × IsPhaseAfter l.conduct.recipe.now l.course.done.items l.course.phase
    × (current l.conduct.recipe.now l.conduct.inputs.now l.course.done.items l.course.phase
    ≡ forward_from l.conduct.recipe.now l.conduct.inputs.now (current l.conduct.recipe.now l.conduct.inputs.now l.fn.course.done.items l.fn.course.phase) (l.fn.most - l.remaining))

abbrev pub decreases-loop-remaining : goal.decreases-loop-remaining
decreases-loop-remaining l = l.remaining
