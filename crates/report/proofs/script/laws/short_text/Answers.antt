use Rattle.report.proofs.ScriptLemmas.Lengths.{short}
use Rattle.report.proofs.script.laws.short_text.Goals as goal

pub returns : goal.returns
returns c = short
