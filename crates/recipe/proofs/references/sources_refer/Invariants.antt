use Rattle.recipe.specs.SecondWalk.{source_refers}
use Rattle.recipe.proofs.TextLemmas.Walks.{Passes}
use Rattle.recipe.proofs.references.sources_refer.Given as goal

abbrev pub invariant-loop-source : goal.invariant-loop-source
invariant-loop-source l = Passes (source_refers l.parsed) l.sources l.source-index l.number
