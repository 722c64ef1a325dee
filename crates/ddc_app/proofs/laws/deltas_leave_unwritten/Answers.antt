use Rattle.ddc_app.proofs.Leaving.{delta_resume_writes, delta_start_writes}
use Rattle.ddc_app.proofs.laws.deltas_leave_unwritten.Goals as goal

pub returns-clause-start : goal.returns-clause-start
returns-clause-start c = λ recipe base patch report steps files. delta_start_writes recipe patch report files base steps

pub returns-clause-resume : goal.returns-clause-resume
returns-clause-resume c = λ recipe base patch report steps files. delta_resume_writes recipe patch report files base steps
