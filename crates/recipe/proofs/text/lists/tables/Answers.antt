use Rattle.std.proofs.Common.{◌∙◌, ap, arith}
use Rattle.std.proofs.lemmas.List.{map_push}
use Rattle.std.proofs.lemmas.Result.{err_from_is_err_and}
use Rattle.toml.specs.View.{view, table_view}
use Rattle.recipe.specs.Text.Inside.Views.{TableRef, tables_view}
use Rattle.recipe.specs.Text.Reading.{a_table}
use Rattle.recipe.proofs.TextLemmas.Walks.{gathers_more, gathers_fails, gathers_all}
use Rattle.recipe.proofs.text.lists.tables.Goals as goal

pub returns-in_err-table-clause-tables : goal.returns-in_err-table-clause-tables
returns-in_err-table-clause-tables c =
    let p = err_from_is_err_and c.from_residual.result c.from_residual.ensures.1 in
    rw (p.1, p.2) (gathers_fails c.in_err-table.field-0.0 view (λ _ element. a_table c.args.place c.args.key element) c.args.values.now c.loop-value.value-index
    c.value-item.result (tables_view c.loop-value.tables.items) c.loop-value-test.true c.value-item.is c.loop-value.invariant.gathers c.in_err-table.ensures.value)

pub loop-value-preserved : goal.loop-value-preserved
loop-value-preserved c = record {
  gathers = gathers_more view (λ _ element. a_table c.args.place c.args.key element) c.args.values.now c.loop-value.value-index c.value-item.result
      (tables_view c.loop-value.tables.items) (tables_view c.push.new.self.items) (table_view c.in_ok-table.table.now) c.loop-value-test.true c.value-item.is
      c.loop-value.invariant.gathers c.in_ok-table.ensures.value
      (ap tables_view c.in_ok-push.ensures.items ∙ map_push (λ (table : TableRef). table_view table.now) c.loop-value.tables.items c.in_ok-table.table);
  count = omega (arith, c.in_ok-push.ensures.len, c.loop-value.invariant.count);
}

pub returns-clause-tables : goal.returns-clause-tables
returns-clause-tables c =
    gathers_all view (λ _ element. a_table c.args.place c.args.key element) c.args.values.now c.loop-value.value-index (tables_view c.loop-value.tables.items)
    c.loop-value-test.false c.loop-value.invariant.gathers
