use Rattle.audit_chain.proofs.RestsLemmas.Least.{lines-are}
use Rattle.audit_chain.proofs.RestsLemmas.Routed.{route-run}
use Rattle.audit_chain.proofs.rests.laws.the_lines_are_those_of_the_audit.Goals as goal

pub returns-clause-lines : goal.returns-clause-lines
returns-clause-lines c recipe name = lines-are recipe name

pub returns-clause-route : goal.returns-clause-route
returns-clause-route c recipe name program ok on = route-run recipe ok name program on
