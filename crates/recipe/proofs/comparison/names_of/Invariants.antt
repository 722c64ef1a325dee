use Rattle.toml.specs.View.{view}
use Rattle.recipe.specs.declared.text.keys.Key.TheVariants as key
use Rattle.recipe.specs.Tables.{compare_place, next_stage_name}
use Rattle.recipe.proofs.TextLemmas.Walks.{Gathers}
use Rattle.recipe.proofs.comparison.names_of.Given as goal

abbrev pub invariant-loop-value : goal.invariant-loop-value
invariant-loop-value l = Gathers view (next_stage_name compare_place key.Stages) l.values l.value-index l.names
