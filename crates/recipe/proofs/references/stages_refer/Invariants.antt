use Rattle.recipe.specs.SecondWalk.{stage_refers}
use Rattle.recipe.proofs.TextLemmas.Walks.{Passes}
use Rattle.recipe.proofs.references.stages_refer.Given as goal

abbrev pub invariant-loop-stage : goal.invariant-loop-stage
invariant-loop-stage l = Passes (stage_refers l.parsed) l.stages l.stage-index l.number
