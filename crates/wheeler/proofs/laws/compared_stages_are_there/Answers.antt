use Rattle.wheeler.proofs.ComparedStages.{has-compared}
use Rattle.wheeler.proofs.laws.compared_stages_are_there.Goals as goal

pub returns : goal.returns
returns c = has-compared
