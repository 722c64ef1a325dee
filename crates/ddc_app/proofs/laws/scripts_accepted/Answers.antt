use Rattle.std.proofs.Common.{decimal}
use Rattle.ddc_app.proofs.Scripting.{accepted_text, script_accepted}
use Rattle.ddc_app.proofs.laws.scripts_accepted.Goals as goal

pub returns-clause-yes : goal.returns-clause-yes
returns-clause-yes c = λ script list report steps files. script_accepted script list report (decimal steps) files

pub returns-clause-text : goal.returns-clause-text
returns-clause-text c = accepted_text
