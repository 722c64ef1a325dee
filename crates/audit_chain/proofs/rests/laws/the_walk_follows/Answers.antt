use Rattle.audit_chain.proofs.RestsLemmas.Whole.{walk-follows}
use Rattle.audit_chain.proofs.rests.laws.the_walk_follows.Goals as goal

pub returns : goal.returns
returns g c recipe inputs report name ok given is hold =
    walk-follows recipe ok name g.M.Meaning.prescribes g.M.Meaning.compiles
    (record { fixed = g.M.Meaning.fixed; carry = g.M.Meaning.carry; literal = g.M.Meaning.literal }) inputs report given is hold
