use Rattle.audit_rules.proofs.SourceCheckLemmas.Wants.{expansions-never, items-never, values-never}
use Rattle.audit_rules.proofs.source_check.laws.no_source_wants_memory.Goals as goal

pub returns-clause-items : goal.returns-clause-items
returns-clause-items c = items-never

pub returns-clause-values : goal.returns-clause-values
returns-clause-values c = values-never

pub returns-clause-expansions : goal.returns-clause-expansions
returns-clause-expansions c = expansions-never
