use Rattle.audit_run.proofs.DeltaLemmas.Answered.{is_resumed, is_settled, one_answer}
use Rattle.audit_run.proofs.delta.laws.every_delta_has_one_answer.Goals as goal

pub returns-clause-answer : goal.returns-clause-answer
returns-clause-answer c = is_resumed

pub returns-clause-settled : goal.returns-clause-settled
returns-clause-settled c = is_settled

pub returns-clause-one : goal.returns-clause-one
returns-clause-one c = one_answer
