use Rattle.recipe.specs.SecondWalk.{program_has_source}
use Rattle.recipe.proofs.TextLemmas.Walks.{Passes}
use Rattle.recipe.proofs.references.programs_have_sources.Given as goal

abbrev pub invariant-loop-stage : goal.invariant-loop-stage
invariant-loop-stage l = Passes (program_has_source l.parsed) l.stages l.stage-index l.number
