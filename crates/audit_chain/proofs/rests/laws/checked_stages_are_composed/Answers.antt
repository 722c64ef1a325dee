use Rattle.audit_chain.proofs.RestsLemmas.Composing.{composes}
use Rattle.audit_chain.proofs.rests.laws.checked_stages_are_composed.Goals as goal

pub returns : goal.returns
returns c recipe inputs report name stage ok given is at checked none = composes recipe ok inputs name report stage given is at checked none
