use Rattle.std.proofs.Common.{◌≡◌, IfOk, subst}
use Rattle.audit_run.specs.Stage.Begins.{Begins}
use Rattle.audit_run.proofs.InOrder.{next-rules, starts-at, value-of}
use Rattle.audit_run.proofs.Present.{made}
use Rattle.audit_run.proofs.earlier.run_stage.Goals as goal

pub start_stage-requires-clause-stage : goal.start_stage-requires-clause-stage
start_stage-requires-clause-stage c = next-rules c.args.recipe.now c.args.done.now c.args.stage.now _ c.requires.kept c.requires.next

pub start_stage-requires-clause-done : goal.start_stage-requires-clause-done
start_stage-requires-clause-done c = made c.args.recipe.now c.args.done.now c.requires.done

pub run_out-requires-clause-current : goal.run_out-requires-clause-current
run_out-requires-clause-current c =
    starts-at c.args.recipe.now c.args.inputs.now c.args.done.now c.args.stage.now _ c.in-Ok.guest c.requires.kept c.requires.given c.requires.done c.requires.next
    (subst (Begins _) c.in-Ok.is c.in_ok-guest.ensures.begins)

pub returns-in-Ok-clause-value : goal.returns-in-Ok-clause-value
returns-in-Ok-clause-value c =
    value-of c.args.recipe.now c.args.inputs.now c.args.done.now c.args.stage.now c.args.recipe.now.stages c.in-Ok.guest c.run_out.result
    (subst (λ begun. IfOk begun (λ guest. guest.steps ≡ 0)) c.in-Ok.is c.in_ok-guest.ensures.fresh) (subst (Begins _) c.in-Ok.is c.in_ok-guest.ensures.begins) c.run_out.ensures.value
