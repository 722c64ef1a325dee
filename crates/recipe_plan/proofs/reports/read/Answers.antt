use Rattle.command_plan.proofs.Obtaining.{wants_at_once}
use Rattle.recipe_plan.proofs.reports.read.Goals as goal

pub returns-clause-obtained : goal.returns-clause-obtained
returns-clause-obtained c = λ shelf. wants_at_once _ shelf
