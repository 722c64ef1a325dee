use Rattle.audit_chain.proofs.OriginLemmas.Told.{not-met}
use Rattle.audit_chain.proofs.origin.laws.an_untold_binary_is_not_met.Goals as goal

pub returns : goal.returns
returns c recipe inputs report name ok given is read run same_read same_run met made on other =
    not-met recipe inputs report given is ok name read run same_read same_run met made on other
