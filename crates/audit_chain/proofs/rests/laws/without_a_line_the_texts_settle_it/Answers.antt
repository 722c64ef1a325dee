use Rattle.audit_chain.proofs.RestsLemmas.Whole.{basis-settles, no-line}
use Rattle.audit_chain.proofs.rests.laws.without_a_line_the_texts_settle_it.Goals as goal

pub returns : goal.returns
returns c recipe inputs others report other name stage ok one two is was at none agree =
    basis-settles recipe ok name inputs others report other stage one two is was at (no-line recipe ok name inputs others none) agree
