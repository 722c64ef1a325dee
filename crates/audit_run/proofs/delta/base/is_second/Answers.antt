use Rattle.audit_run.proofs.DeltaLemmas.Bases.{is_second}
use Rattle.audit_run.proofs.delta.base.is_second.Goals as goal

pub returns : goal.returns
returns c = λ is save text. is_second save c.args.base.now c.starts_with.result c.starts_with.ensures.value is text
