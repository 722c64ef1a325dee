use Rattle.command_plan.proofs.Obtaining.{loads}
use Rattle.command_plan.proofs.fetching.fetch.Goals as goal

pub returns-clause-obtained : goal.returns-clause-obtained
returns-clause-obtained g c = loads _ _ _ _ _ (rw c.text.ensures.value at c.load.ensures)
