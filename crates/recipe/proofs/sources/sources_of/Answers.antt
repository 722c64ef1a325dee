use Rattle.std.proofs.lemmas.Result.{err_from_is_err_and}
use Rattle.toml.specs.View.{table_view}
use Rattle.recipe.specs.Text.Inside.Views.{TableRef}
use Rattle.recipe.specs.Tables.{next_source}
use Rattle.recipe.proofs.TextLemmas.Walks.{gathers_more, gathers_fails, gathers_all}
use Rattle.recipe.proofs.sources.sources_of.Goals as goal

pub returns-in_err-source-clause-sources : goal.returns-in_err-source-clause-sources
returns-in_err-source-clause-sources c =
    let p = err_from_is_err_and c.from_residual.result c.from_residual.ensures.1 in
    rw (p.1, p.2) (gathers_fails c.in_err-source.field-0.0 (λ (table : TableRef). table_view table.now) (next_source c.args.inputs.now) c.args.tables.now c.loop-table.table-index
    c.table-item.result c.loop-table.sources c.loop-table-test.true c.table-item.is c.loop-table.invariant c.in_err-source.ensures)

pub loop-table-preserved : goal.loop-table-preserved
loop-table-preserved c =
    gathers_more (λ (table : TableRef). table_view table.now) (next_source c.args.inputs.now) c.args.tables.now c.loop-table.table-index c.table-item.result c.loop-table.sources c.push.new.self
    c.in_ok-source.source c.loop-table-test.true c.table-item.is c.loop-table.invariant c.in_ok-source.ensures c.in_ok-push.ensures.ok

pub returns-clause-sources : goal.returns-clause-sources
returns-clause-sources c =
    gathers_all (λ (table : TableRef). table_view table.now) (next_source c.args.inputs.now) c.args.tables.now c.loop-table.table-index c.loop-table.sources c.loop-table-test.false c.loop-table.invariant
