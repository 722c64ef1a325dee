use Rattle.audit_run.proofs.Stretching.{wants-within}
use Rattle.audit_run.proofs.advance.take_piece.Goals as goal

pub returns-clause-err : goal.returns-clause-err
returns-clause-err c =
    wants-within c.args.recipe.now c.args.inputs.now _ _ c.args.course.now.phase _ c.args.most _ c.as_slice.ensures.value c.in_ok-begin.ensures.ok c.advance_started.ensures.err
