use Rattle.std.proofs.Common.{None, arith}
use Rattle.audit_run.proofs.SaveLemmas.Judged.{ascending}
use Rattle.audit_run.proofs.save.judging.are_left.Goals as goal

pub returns : goal.returns
returns c =
    let few = c.if-files-gt-MOST_NAMES.false in
    (λ t. (c.are_lines.ensures.0 t, omega (arith, few), ascending c.args.files.now None c.requires), λ all. c.are_lines.ensures.1 all.0)
