use Rattle.audit_run.proofs.Stretching.{entered-phase, ready-done}
use Rattle.audit_run.proofs.advance.begin.Goals as goal

pub returns-in_ok-enter-in-Ready-clause-current : goal.returns-in_ok-enter-in-Ready-clause-current
returns-in_ok-enter-in-Ready-clause-current c =
    rw c.set.ensures (entered-phase c.args.recipe.now c.args.inputs.now c.args.done.now c.in_ok-enter-in-Ready.field-0 c.enter.ensures.kept c.requires.given
    (ready-done c.args.recipe.now c.args.done.now c.args.phase.now c.in-Ready.is c.requires.phase) c.in_ok-enter-in-Ready.ensures.started
    c.in_ok-enter-in-Ready.ensures.entered)
