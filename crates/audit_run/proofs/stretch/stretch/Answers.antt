use Rattle.std.proofs.lemmas.Result.{err_from_is_err_and}
use Rattle.audit_run.proofs.Stretching.{closed-current, closing-wants, goes-current, running-wants}
use Rattle.audit_run.proofs.stretch.stretch.Goals as goal

pub returns-in-Goes-clause-current : goal.returns-in-Goes-clause-current
returns-in-Goes-clause-current c =
    goes-current c.args.conduct.now.recipe.now c.args.conduct.now.inputs.now c.run_present.ensures.kept c.args.conduct.now.given _ _ c.as_slice.ensures.value _ c.in-Running.guest _ c.in-Running.is c.requires.current
    c.in_ok-taken-in-Running.taken c.in_ok-taken-in-Running.moved c.in-Goes.is c.in_ok-taken-in-Running.ensures.slices.0

pub returns-in_ok-close-in-Ended-Ok-clause-current : goal.returns-in_ok-close-in-Ended-Ok-clause-current
returns-in_ok-close-in-Ended-Ok-clause-current c =
    closed-current c.args.conduct.now.recipe.now c.args.conduct.now.inputs.now c.run_present.ensures.kept c.args.conduct.now.given _ _ c.as_slice.ensures.value _ c.in-Running.guest _ c.in-Running.is c.requires.current
    c.in_ok-taken-in-Running.taken c.in_ok-taken-in-Running.moved c.in-Ended-Ok.field-0 c.in-Ended-Ok.finished _ _ c.in-Ended-Ok.is c.in-Ended-Ok.field-0-is c.in_ok-taken-in-Running.ensures.slices.0 c.in_ok-close-in-Ended-Ok.ensures.ok c.in_ok-close-in-Ended-Ok.ensures.started

pub returns-in_err-close-in-Ended-Ok-clause-err : goal.returns-in_err-close-in-Ended-Ok-clause-err
returns-in_err-close-in-Ended-Ok-clause-err c =
    let p = err_from_is_err_and c.from_residual-in_err-close-in-Ended-Ok.result c.from_residual-in_err-close-in-Ended-Ok.ensures.1 in
    rw (p.1) (
    closing-wants c.args.conduct.now.recipe.now c.args.conduct.now.inputs.now c.run_present.ensures.kept c.args.conduct.now.given _ _ c.as_slice.ensures.value _ c.in-Running.guest c.run_present.new.guest c.in-Running.is c.requires.current
    c.args.conduct.now.ended c.args.most c.in_ok-taken-in-Running.taken c.in_ok-taken-in-Running.moved c.in-Ended-Ok.field-0 c.in-Ended-Ok.finished _ _ c.in-Ended-Ok.is c.in-Ended-Ok.field-0-is c.in_ok-taken-in-Running.ensures.slices.0 c.in_ok-taken-in-Running.ensures.slices.1 c.in_ok-taken-in-Running.ensures.slices.2
    c.in_err-close-in-Ended-Ok.ensures.done c.in_err-close-in-Ended-Ok.ensures.phase)

pub returns-in_err-taken-in-Running-clause-err : goal.returns-in_err-taken-in-Running-clause-err
returns-in_err-taken-in-Running-clause-err c =
    let p = err_from_is_err_and c.from_residual.result c.from_residual.ensures.1 in
    rw (p.1) (
    running-wants c.args.conduct.now.recipe.now c.args.conduct.now.inputs.now c.run_present.ensures.kept c.args.conduct.now.given _ _ c.as_slice.ensures.value _ c.in-Running.guest _ c.in-Running.is c.requires.current
    c.args.conduct.now.ended c.args.most c.in_err-taken-in-Running.ensures.slices)
