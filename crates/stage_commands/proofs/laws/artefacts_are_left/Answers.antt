use Rattle.stage_commands.proofs.OutputLeft.{artefact_left, left_found}
use Rattle.stage_commands.proofs.laws.artefacts_are_left.Goals as goal

pub returns-clause-made : goal.returns-clause-made
returns-clause-made c = artefact_left

pub returns-clause-found : goal.returns-clause-found
returns-clause-found c = λ recipe stage file out files. left_found recipe stage out files file
