use Rattle.verifier.proofs.Refused.{found-refused}
use Rattle.verifier.proofs.checking.reads_as.Goals as goal

pub returns-in-Err : goal.returns-in-Err
returns-in-Err c = found-refused _ _ c.in-Err.refusal _ c.in-Err.ensures c.hex_refused.ensures
