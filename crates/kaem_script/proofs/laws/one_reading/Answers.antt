use Rattle.kaem_script.proofs.ByLines.{by-line}
use Rattle.kaem_script.proofs.laws.one_reading.Goals as goal

pub returns : goal.returns
returns c = by-line
