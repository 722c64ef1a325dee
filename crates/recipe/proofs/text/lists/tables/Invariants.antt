use Rattle.std.proofs.Common.{◌≡◌, vec_len}
use Rattle.toml.specs.View.{view}
use Rattle.recipe.specs.Text.Inside.Views.{tables_view}
use Rattle.recipe.specs.Text.Reading.{a_table}
use Rattle.recipe.proofs.TextLemmas.Walks.{Gathers}
use Rattle.recipe.proofs.text.lists.tables.Given as goal

abbrev pub invariant-loop-value : goal.invariant-loop-value
invariant-loop-value l = record {
  gathers : Gathers view (λ _ element. a_table l.place l.key element) l.values l.value-index (tables_view l.tables.items);
  count : vec_len l.tables ≡ l.value-index;
}
