-- The tables of the top table, as the definitions see them.
use Rattle.toml.specs.View.{table_view}
use Rattle.recipe.specs.Text.Inside.Views.{tables_view}
use Rattle.recipe.specs.Tables as tables
use Rattle.recipe.specs.declared.top_tables.Top.{Top}

abbrev pub top_view : Top → tables.Top
top_view top = record {
  format = top.format;
  inputs = tables_view top.inputs.items;
  sources = tables_view top.sources.items;
  stages = tables_view top.stages.items;
  compare = table_view top.compare.now;
}
