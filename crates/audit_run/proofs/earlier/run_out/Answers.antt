use Rattle.audit_run.proofs.InOrder.{next-rules}
use Rattle.audit_run.proofs.earlier.run_out.Goals as goal

pub run_slice-requires-clause-stage : goal.run_slice-requires-clause-stage
run_slice-requires-clause-stage c = next-rules c.args.so_far.now.recipe.now c.args.so_far.now.done.now c.args.stage.now _ c.requires.kept c.requires.current.left
