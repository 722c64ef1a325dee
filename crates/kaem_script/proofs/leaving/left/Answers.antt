use Rattle.std.proofs.Common.{◌∙◌, ◌+◌, ◌∷◌, ◌++◌, [], length, refl}
use Rattle.std.proofs.lemmas.Result.{err_from_is_err_and}
use Rattle.kaem_script.specs.Fold.{folded}
use Rattle.kaem_script.specs.Inside.Commands.{world_in}
use Rattle.kaem_script.specs.Leaving.{after_earlier, left_of_command}
use Rattle.kaem_script.specs.Wants.{WantsAt}
use Rattle.kaem_script.proofs.Folding.{stopped_so, wants_so}
use Rattle.kaem_script.proofs.LeftByCommands.{left_here, wants_before, wants_here}
use Rattle.kaem_script.proofs.leaving.left.Goals as goal

pub returns-in_err-present-clause-answer : goal.returns-in_err-present-clause-answer
unfolding left_of_command
returns-in_err-present-clause-answer c =
    let p = err_from_is_err_and c.from_residual.result c.from_residual.ensures.1 in
    rw (p.1, p.2)
    (stopped_so (after_earlier c.args.most (length c.args.earlier.now + 1) c.args.command.now) (folded c.args.most c.files.result.now c.args.earlier.now)
    (folded c.args.most c.args.files.now.world c.args.earlier.now) c.in_err-present.field-0.0 (rw c.files.ensures refl) (λ number why step. refl) c.in_err-present.ensures.folds)

pub returns-in_err-present-clause-memory : goal.returns-in_err-present-clause-memory
returns-in_err-present-clause-memory c =
    let p = err_from_is_err_and c.from_residual.result c.from_residual.ensures.1 in
    rw (p.1, p.2)
    (wants_so (length c.args.earlier.now) (WantsAt c.args.most c.files.result.now c.args.earlier.now)
    (WantsAt c.args.most c.args.files.now.world (c.args.earlier.now ++ c.args.command.now ∷ [])) c.in_err-present.field-0.0
    (λ number within at. wants_before c.args.most c.args.files.now.world c.args.earlier.now (c.args.command.now ∷ []) number within (rw c.files.ensures at at))
    c.in_err-present.ensures.within c.in_err-present.ensures.memory)

pub returns-in-Ok-Ok-clause-answer : goal.returns-in-Ok-Ok-clause-answer
returns-in-Ok-Ok-clause-answer c =
    left_here c.args.most c.args.files.now.world (world_in c.in_ok-present.present) c.args.earlier.now c.args.command.now c.in_ok-present.field-0-0 (rw c.files.ensures at c.in_ok-present.ensures.folds)
    ∙ (rw c.in-Ok-Ok.field-0-is at (c.in-Ok-Ok.ensures.leaves (length c.args.earlier.now + 1)))

pub returns-in-Ok-Err-clause-answer : goal.returns-in-Ok-Err-clause-answer
returns-in-Ok-Err-clause-answer c =
    left_here c.args.most c.args.files.now.world (world_in c.in_ok-present.present) c.args.earlier.now c.args.command.now c.in_ok-present.field-0-0 (rw c.files.ensures at c.in_ok-present.ensures.folds)
    ∙ (rw c.in-Ok-Err.field-0-is at (c.in-Ok-Err.ensures.leaves (length c.args.earlier.now + 1)))

pub returns-in-Err-clause-memory : goal.returns-in-Err-clause-memory
returns-in-Err-clause-memory c =
    wants_here c.args.most c.args.files.now.world (world_in c.in_ok-present.present) c.args.earlier.now c.args.command.now c.in_ok-present.field-0-0 (rw c.files.ensures at c.in_ok-present.ensures.folds)
    c.in-Err.ensures.program
