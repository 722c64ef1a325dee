use Rattle.toml.specs.View.{view}
use Rattle.recipe.specs.Text.Reading.{a_word}
use Rattle.recipe.proofs.TextLemmas.Walks.{Gathers}
use Rattle.recipe.proofs.text.lists.words.Given as goal

abbrev pub invariant-loop-value : goal.invariant-loop-value
invariant-loop-value l = Gathers view (λ _ element. a_word l.place l.key element) l.values l.value-index l.words
