use Rattle.std.proofs.Common.{decimal}
use Rattle.ddc_app.proofs.Scripting.{kaem_reports, kaem_verifies}
use Rattle.ddc_app.proofs.laws.scripts_shown.Goals as goal

pub returns-clause-reported : goal.returns-clause-reported
returns-clause-reported c = λ script list report steps files. kaem_reports script list report files (decimal steps)

pub returns-clause-verified : goal.returns-clause-verified
returns-clause-verified c = kaem_verifies
