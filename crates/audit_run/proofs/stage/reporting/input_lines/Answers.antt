use Rattle.std.proofs.Common.{arith}
use Rattle.audit_run.proofs.StageLemmas.Lines.{inputs-made}
use Rattle.audit_run.proofs.stage.reporting.input_lines.Goals as goal

pub returns : goal.returns
returns c =
    inputs-made c.args.inputs.now c.args.given.now c.loop-index.index _ _ (omega (arith, c.min-index-end.ensures, c.loop-index-test.false)) c.loop-index.invariant
