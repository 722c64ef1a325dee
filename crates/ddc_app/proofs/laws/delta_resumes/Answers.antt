use Rattle.ddc_app.proofs.Relative.{delta_resumes, delta_resumes_answered}
use Rattle.ddc_app.proofs.laws.delta_resumes.Goals as goal

pub returns-clause-bytes : goal.returns-clause-bytes
returns-clause-bytes c = delta_resumes

pub returns-clause-answered : goal.returns-clause-answered
returns-clause-answered c = delta_resumes_answered
