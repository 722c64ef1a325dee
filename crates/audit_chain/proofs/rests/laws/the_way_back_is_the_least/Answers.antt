use Rattle.audit_chain.proofs.RestsLemmas.Closed.{begins}
use Rattle.audit_chain.proofs.RestsLemmas.Least.{least}
use Rattle.audit_chain.proofs.RestsLemmas.Routed.{has-parts}
use Rattle.audit_chain.proofs.rests.laws.the_way_back_is_the_least.Goals as goal

pub returns-clause-begins : goal.returns-clause-begins
returns-clause-begins c recipe name ok = begins recipe ok name

pub returns-clause-parts : goal.returns-clause-parts
returns-clause-parts c recipe name ok = has-parts recipe ok name

pub returns-clause-least : goal.returns-clause-least
returns-clause-least c recipe name chosen first has other met = least recipe name chosen first has other met
