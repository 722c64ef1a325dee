use Rattle.recipe.specs.SecondWalk.{input_refers}
use Rattle.recipe.proofs.TextLemmas.Walks.{Passes}
use Rattle.recipe.proofs.references.inputs_refer.Given as goal

abbrev pub invariant-loop-input : goal.invariant-loop-input
invariant-loop-input l = Passes (input_refers l.parsed) l.inputs l.input-index l.number
