use Rattle.std.proofs.Common.{◌+◌, ◌-◌, Err, arith, ap, ◌∙◌, subst}
use Rattle.std.proofs.lemmas.Result.{err_from_is_err_and}
use Rattle.guest_run.specs.Run.{Exited, Trapped, UnknownCall}
use Rattle.audit_rules.specs.declared.answer.StageFault.TheVariants.{Runs}
use Rattle.audit_rules.specs.declared.cause.RunCause.TheVariants as run
use Rattle.audit_rules.specs.Stages.{exited_with}
use Rattle.audit_run.specs.Stage.Makes.{Makes}
use Rattle.audit_run.proofs.Slicing.{slices-end, slices-end-out, slices-goes, slices-out, slices-spent}
use Rattle.audit_run.proofs.Whole.{whole-end, whole-goes, whole-spent}
use Rattle.audit_run.proofs.stage_run.run_slice.Goals as goal

pub returns-then-steps-stage-clause-slices : goal.returns-then-steps-stage-clause-slices
returns-then-steps-stage-clause-slices c =
    slices-goes _ _ _ _ _ _ _ c.requires.current c.requires.recipe c.args.so_far.now.given c.args.most c.min-slice.result c.in-Spent.ensures.answer
    (omega (arith, c.min-slice.ensures, c.steps-before.ensures.value, c.requires.current.within, c.requires.some)) (omega (arith, c.min-slice.ensures))
    (omega (arith, c.if-steps-stage.true, c.steps.ensures.value))

pub returns-else-steps-stage-clause-slices : goal.returns-else-steps-stage-clause-slices
returns-else-steps-stage-clause-slices c =
    slices-spent c.args.so_far.now.recipe.now c.args.so_far.now.inputs.now c.args.so_far.now.done.now c.args.stage.now _ c.args.guest.now c.run.new.self c.requires.current c.requires.recipe c.args.so_far.now.given c.args.most c.min-slice.result c.in-Spent.ensures.answer
    (omega (arith, c.min-slice.ensures, c.steps-before.ensures.value, c.requires.current.within, c.requires.some)) (omega (arith, c.min-slice.ensures))
    (omega (arith, c.min-slice.ensures, c.steps-before.ensures.value, c.requires.current.within)) (omega (arith, c.if-steps-stage.false, c.steps.ensures.value))

pub returns-in-OutOfMemory-clause-slices : goal.returns-in-OutOfMemory-clause-slices
returns-in-OutOfMemory-clause-slices c =
    slices-out _ _ _ _ _ _ _ c.requires.current c.requires.recipe c.args.so_far.now.given c.args.most c.min-slice.result _ c.in-OutOfMemory.ensures.answer
    (omega (arith, c.min-slice.ensures)) (omega (arith, c.min-slice.ensures, c.steps-before.ensures.value, c.requires.current.within))

pub returns-in-Trapped-clause-slices : goal.returns-in-Trapped-clause-slices
returns-in-Trapped-clause-slices c =
    slices-end _ _ _ _ _ _ _ c.requires.current c.requires.recipe c.args.so_far.now.given c.args.most c.min-slice.result (c.steps-step.result + 1 - c.steps-before.result) (Trapped c.in-Trapped.cause)
    (Err (Runs (run.Trap c.in-Trapped.cause) (c.steps-step.result + 1))) c.in-Trapped.ensures.answer
    (omega (arith, c.min-slice.ensures)) (omega (arith, c.min-slice.ensures, c.steps-before.ensures.value, c.requires.current.within))
    (omega (arith, c.steps-step.ensures.value, c.steps-before.ensures.value)) (ap (λ n. Err (Runs (run.Trap c.in-Trapped.cause) (n + 1))) c.steps-step.ensures.value)

pub returns-in-UnknownCall-clause-slices : goal.returns-in-UnknownCall-clause-slices
returns-in-UnknownCall-clause-slices c =
    slices-end _ _ _ _ _ _ _ c.requires.current c.requires.recipe c.args.so_far.now.given c.args.most c.min-slice.result (c.steps-step-in-UnknownCall.result + 1 - c.steps-before.result) (UnknownCall c.in-UnknownCall.number)
    (Err (Runs (run.Call c.in-UnknownCall.number) (c.steps-step-in-UnknownCall.result + 1))) c.in-UnknownCall.ensures.answer
    (omega (arith, c.min-slice.ensures)) (omega (arith, c.min-slice.ensures, c.steps-before.ensures.value, c.requires.current.within))
    (omega (arith, c.steps-step-in-UnknownCall.ensures.value, c.steps-before.ensures.value))
    (ap (λ n. Err (Runs (run.Call c.in-UnknownCall.number) (n + 1))) c.steps-step-in-UnknownCall.ensures.value)

pub returns-in_ok-result-in-Exited-clause-slices : goal.returns-in_ok-result-in-Exited-clause-slices
returns-in_ok-result-in-Exited-clause-slices c =
    slices-end _ _ _ _ _ _ _ c.requires.current c.requires.recipe c.args.so_far.now.given c.args.most c.min-slice.result (c.steps-step-in-Exited.result + 1 - c.steps-before.result) (Exited c.in-Exited.status)
    c.in_ok-result-in-Exited.result c.in-Exited.ensures.answer
    (omega (arith, c.min-slice.ensures)) (omega (arith, c.min-slice.ensures, c.steps-before.ensures.value, c.requires.current.within))
    (omega (arith, c.steps-step-in-Exited.ensures.value, c.steps-before.ensures.value))
    (c.in_ok-result-in-Exited.ensures.answer
    ∙ (λ i. exited_with c.args.so_far.now.recipe.now c.args.so_far.now.inputs.now c.args.so_far.now.done.now c.args.stage.now c.in-Exited.status (c.steps-step-in-Exited.ensures.value i + 1) (c.files.ensures i)))

pub returns-in_err-result-in-Exited-clause-slices : goal.returns-in_err-result-in-Exited-clause-slices
returns-in_err-result-in-Exited-clause-slices c =
    let p = err_from_is_err_and c.from_residual.result c.from_residual.ensures.1 in
    rw (p.1) (
    slices-end-out _ _ _ _ _ _ _ c.requires.current c.requires.recipe c.args.so_far.now.given c.args.most c.min-slice.result c.in-Exited.status _ c.in-Exited.ensures.answer
    (omega (arith, c.min-slice.ensures)) (omega (arith, c.min-slice.ensures, c.steps-before.ensures.value, c.requires.current.within))
    (subst (Makes c.args.stage.now c.args.so_far.now.done.now c.in-Exited.status) c.files.ensures c.in_err-result-in-Exited.ensures.want))

pub returns-then-steps-stage-clause-whole : goal.returns-then-steps-stage-clause-whole
returns-then-steps-stage-clause-whole c = λ enough.
    absurd (whole-goes _ _ c.args.stage.now.steps c.min-slice.result c.in-Spent.ensures.answer
    (omega (arith, enough, c.min-slice.ensures, c.steps-before.ensures.value, c.requires.current.within)) (omega (arith, c.if-steps-stage.true, c.steps.ensures.value)))

pub returns-else-steps-stage-clause-whole : goal.returns-else-steps-stage-clause-whole
returns-else-steps-stage-clause-whole c = λ enough.
    whole-spent c.args.so_far.now.recipe.now c.args.so_far.now.inputs.now c.args.so_far.now.done.now c.args.stage.now _ _ c.min-slice.result
    (omega (arith, enough, c.min-slice.ensures, c.steps-before.ensures.value)) c.in-Spent.ensures.answer

pub returns-in-Trapped-clause-whole : goal.returns-in-Trapped-clause-whole
returns-in-Trapped-clause-whole c = λ enough.
    whole-end c.args.so_far.now.recipe.now c.args.so_far.now.inputs.now c.args.so_far.now.done.now c.args.stage.now _ _ c.min-slice.result (Trapped c.in-Trapped.cause) _
    (omega (arith, enough, c.min-slice.ensures, c.steps-before.ensures.value)) c.in-Trapped.ensures.answer (ap (λ n. Err (Runs (run.Trap c.in-Trapped.cause) (n + 1))) c.steps-step.ensures.value)

pub returns-in-UnknownCall-clause-whole : goal.returns-in-UnknownCall-clause-whole
returns-in-UnknownCall-clause-whole c = λ enough.
    whole-end c.args.so_far.now.recipe.now c.args.so_far.now.inputs.now c.args.so_far.now.done.now c.args.stage.now _ _ c.min-slice.result (UnknownCall c.in-UnknownCall.number) _
    (omega (arith, enough, c.min-slice.ensures, c.steps-before.ensures.value)) c.in-UnknownCall.ensures.answer (ap (λ n. Err (Runs (run.Call c.in-UnknownCall.number) (n + 1))) c.steps-step-in-UnknownCall.ensures.value)

pub returns-in_ok-result-in-Exited-clause-whole : goal.returns-in_ok-result-in-Exited-clause-whole
returns-in_ok-result-in-Exited-clause-whole c = λ enough.
    whole-end c.args.so_far.now.recipe.now c.args.so_far.now.inputs.now c.args.so_far.now.done.now c.args.stage.now _ _ c.min-slice.result (Exited c.in-Exited.status) _
    (omega (arith, enough, c.min-slice.ensures, c.steps-before.ensures.value)) c.in-Exited.ensures.answer
    (c.in_ok-result-in-Exited.ensures.answer
    ∙ (λ i. exited_with c.args.so_far.now.recipe.now c.args.so_far.now.inputs.now c.args.so_far.now.done.now c.args.stage.now c.in-Exited.status (c.steps-step-in-Exited.ensures.value i + 1) (c.files.ensures i)))
