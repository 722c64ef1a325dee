use Rattle.audit_chain.proofs.RestsLemmas.Whole.{basis-settles}
use Rattle.audit_chain.proofs.rests.laws.the_basis_settles_it.Goals as goal

pub returns : goal.returns
returns c recipe inputs others report other name stage ok one two is was at programs agree =
    basis-settles recipe ok name inputs others report other stage one two is was at programs agree
