use Rattle.ddc_app.proofs.Scripting.{refuted_is_false, script_text, script_verified}
use Rattle.ddc_app.proofs.laws.scripts_verified.Goals as goal

pub returns-clause-yes : goal.returns-clause-yes
returns-clause-yes c = λ script list report steps files parsed listed holds counted. script_verified script list report files parsed listed holds steps counted

pub returns-clause-text : goal.returns-clause-text
returns-clause-text c = script_text

pub returns-clause-refuted : goal.returns-clause-refuted
returns-clause-refuted c = refuted_is_false
