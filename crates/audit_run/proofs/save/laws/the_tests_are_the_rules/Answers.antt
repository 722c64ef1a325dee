use Rattle.audit_run.proofs.SaveLemmas.Answered.{is_of, is_saved_position}
use Rattle.audit_run.proofs.save.laws.the_tests_are_the_rules.Goals as goal

pub returns-clause-of : goal.returns-clause-of
returns-clause-of c = is_of

pub returns-clause-position : goal.returns-clause-position
returns-clause-position c = is_saved_position
