use Rattle.toml.specs.View.{table_view}
use Rattle.recipe.specs.Tables.{next_source}
use Rattle.recipe.proofs.TextLemmas.Walks.{Gathers}
use Rattle.recipe.proofs.sources.sources_of.Given as goal

abbrev pub invariant-loop-table : goal.invariant-loop-table
invariant-loop-table l = Gathers (λ table. table_view table.now) (next_source l.inputs) l.tables l.table-index l.sources
