use Rattle.audit_run.proofs.SaveLemmas.SaveLengths.{texts_short}
use Rattle.audit_run.proofs.save.laws.saves_are_short.Goals as goal

pub returns : goal.returns
returns c = texts_short
