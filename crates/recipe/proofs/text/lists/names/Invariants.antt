use Rattle.toml.specs.View.{view}
use Rattle.recipe.specs.Text.Reading.{a_name}
use Rattle.recipe.proofs.TextLemmas.Walks.{Gathers}
use Rattle.recipe.proofs.text.lists.names.Given as goal

abbrev pub invariant-loop-value : goal.invariant-loop-value
invariant-loop-value l = Gathers view (λ _ element. a_name l.place l.key element) l.values l.value-index l.names
