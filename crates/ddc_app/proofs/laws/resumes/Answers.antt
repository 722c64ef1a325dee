use Rattle.ddc_app.proofs.Resuming.{resumes, resumes_answered}
use Rattle.ddc_app.proofs.laws.resumes.Goals as goal

pub returns-clause-bytes : goal.returns-clause-bytes
returns-clause-bytes c = resumes

pub returns-clause-answered : goal.returns-clause-answered
returns-clause-answered c = resumes_answered
