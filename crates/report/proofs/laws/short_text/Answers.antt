use Rattle.report.proofs.Lengths.{short}
use Rattle.report.proofs.laws.short_text.Goals as goal

pub returns : goal.returns
returns c = short
