use Rattle.std.proofs.Common.{arith}
use Rattle.checkpoints.proofs.Exactly.{is_found, is_only}
use Rattle.checkpoints.proofs.reading.read_state.Goals as goal

pub returns-clause-found : goal.returns-clause-found
returns-clause-found g c = is_found c.args.text.now c.judged.result (λ i. omega (arith, c.type_inv.text i)) c.judged.ensures

pub returns-clause-only : goal.returns-clause-only
returns-clause-only g c = is_only c.args.text.now c.judged.result c.judged.ensures
