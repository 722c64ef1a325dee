use Rattle.ddc_app.proofs.Scripting.{kaem_folds}
use Rattle.ddc_app.proofs.laws.scripts_fold.Goals as goal

pub returns : goal.returns
returns c = λ script list report steps files parsed listed holds. kaem_folds script list report files parsed listed holds steps
