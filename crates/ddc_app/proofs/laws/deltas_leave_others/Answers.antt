use Rattle.ddc_app.proofs.Leaving.{delta_resume_stays, delta_start_stays, differences_stay}
use Rattle.ddc_app.proofs.laws.deltas_leave_others.Goals as goal

pub returns-clause-start : goal.returns-clause-start
returns-clause-start c = delta_start_stays

pub returns-clause-resume : goal.returns-clause-resume
returns-clause-resume c = delta_resume_stays

pub returns-clause-pieces : goal.returns-clause-pieces
returns-clause-pieces c = differences_stay
