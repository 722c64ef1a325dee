use Rattle.audit_chain.proofs.OriginLemmas.Marked.{texts-settle}
use Rattle.audit_chain.proofs.origin.laws.the_marked_texts_settle_it.Goals as goal

pub returns : goal.returns
returns c recipe inputs others report other name stage ok one two is was at none laid marks =
    texts-settle recipe ok inputs others report other name stage one two is was at none laid marks
