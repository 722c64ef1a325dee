use Rattle.audit_chain.proofs.OriginLemmas.Marked.{marks-are}
use Rattle.audit_chain.proofs.origin.laws.marks_are_of_the_contents.Goals as goal

pub returns : goal.returns
returns c recipe inputs report name ok given is made = marks-are recipe inputs report name given is made
