use Rattle.std.proofs.Common.{length, ap, arith, sym}
use Rattle.verifier.proofs.OneReport.{few-lines}
use Rattle.verifier.proofs.judging.judge.Goals as goal

pub compared-requires : goal.compared-requires
compared-requires c =
    omega (arith, ap length c.as_slice-in-Ok-2.ensures, few-lines c.args.recipe.now c.args.report.now c.stages.ensures.kept (sym c.if-not-is_header.ensures))
