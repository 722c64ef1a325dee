use Rattle.std.proofs.Common.{arith}
use Rattle.audit_run.proofs.StageLemmas.Lines.{stages-made}
use Rattle.audit_run.proofs.stage.reporting.put_stage_lines.Goals as goal

pub returns : goal.returns
returns c =
    stages-made c.args.recipe.now c.args.stages.now c.args.done.now c.loop-index.index _ _ (omega (arith, c.min-index-end.ensures, c.loop-index-test.false)) c.loop-index.invariant
