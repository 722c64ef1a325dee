use Rattle.std.proofs.Common.{length, refl}
use Rattle.std.proofs.lemmas.Result.{err_from_is_err_and}
use Rattle.kaem_script.specs.Fold.{folded}
use Rattle.kaem_script.specs.Inside.Commands.{world_in}
use Rattle.kaem_script.specs.Reported.{script_ended}
use Rattle.kaem_script.specs.Wants.{WantsAt}
use Rattle.kaem_script.proofs.Folding.{stopped_so, wants-last, wants_so}
use Rattle.kaem_script.proofs.auditing.audit.Goals as goal

pub returns-in_err-commands-clause-answer : goal.returns-in_err-commands-clause-answer
returns-in_err-commands-clause-answer c =
    let p = err_from_is_err_and c.from_residual.result c.from_residual.ensures.1 in
    rw (p.1, p.2)
    (stopped_so (script_ended c.args.script.now c.args.files.now) (folded c.args.most c.files.result.now c.commands.result.now)
    (folded c.args.most c.args.files.now.world c.args.script.now.commands) c.in_err-commands.field-0.0
    (rw (c.files.ensures, c.commands.ensures.value) refl) (λ number why step. refl) c.in_err-commands.ensures.folds)

pub returns-in_err-commands-clause-memory : goal.returns-in_err-commands-clause-memory
returns-in_err-commands-clause-memory c =
    let p = err_from_is_err_and c.from_residual.result c.from_residual.ensures.1 in
    rw (p.1, p.2)
    (wants_so (length c.commands.result.now) (WantsAt c.args.most c.files.result.now c.commands.result.now) (WantsAt c.args.most c.args.files.now.world c.args.script.now.commands)
    c.in_err-commands.field-0.0 (λ number within at. rw (c.files.ensures, c.commands.ensures.value) at at) c.in_err-commands.ensures.within c.in_err-commands.ensures.memory)

pub returns-clause-memory : goal.returns-clause-memory
returns-clause-memory c =
    rw c.commands-in-Err.ensures.value
    (wants-last c.args.most c.args.files.now.world (world_in c.in_ok-commands.present) c.args.script.now.commands c.in_ok-commands.commands
    (rw (c.files.ensures, c.commands.ensures.value) at c.in_ok-commands.ensures.folds))
