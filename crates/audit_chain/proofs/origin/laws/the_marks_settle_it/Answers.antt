use Rattle.audit_chain.proofs.OriginLemmas.Marked.{marks-settle}
use Rattle.audit_chain.proofs.origin.laws.the_marks_settle_it.Goals as goal

pub returns : goal.returns
returns c recipe inputs others report other name stage ok one two is was at marks =
    marks-settle recipe ok inputs others report other name stage one two is was at marks
