use Rattle.verify_commands.proofs.Beside.{judges-as}
use Rattle.verify_commands.proofs.laws.it_judges_as_verify.Goals as goal

pub returns-clause-status : goal.returns-clause-status
returns-clause-status c words files = (judges-as words files).status

pub returns-clause-files : goal.returns-clause-files
returns-clause-files c words files = (judges-as words files).kept

pub returns-clause-loads : goal.returns-clause-loads
returns-clause-loads c words files = (judges-as words files).loads
