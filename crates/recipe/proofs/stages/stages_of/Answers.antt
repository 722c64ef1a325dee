use Rattle.std.proofs.lemmas.Result.{err_from_is_err_and}
use Rattle.toml.specs.View.{table_view}
use Rattle.recipe.specs.Text.Inside.Views.{TableRef}
use Rattle.recipe.specs.Tables.{next_stage}
use Rattle.recipe.proofs.TextLemmas.Walks.{gathers_more, gathers_fails, gathers_all}
use Rattle.recipe.proofs.stages.stages_of.Goals as goal

pub returns-in_err-stage-clause-stages : goal.returns-in_err-stage-clause-stages
returns-in_err-stage-clause-stages c =
    let p = err_from_is_err_and c.from_residual.result c.from_residual.ensures.1 in
    rw (p.1, p.2) (gathers_fails c.in_err-stage.field-0.0 (λ (table : TableRef). table_view table.now) (next_stage c.args.inputs.now c.args.sources.now) c.args.tables.now c.loop-table.table-index
    c.table-item.result c.loop-table.stages c.loop-table-test.true c.table-item.is c.loop-table.invariant c.in_err-stage.ensures)

pub loop-table-preserved : goal.loop-table-preserved
loop-table-preserved c =
    gathers_more (λ (table : TableRef). table_view table.now) (next_stage c.args.inputs.now c.args.sources.now) c.args.tables.now c.loop-table.table-index c.table-item.result c.loop-table.stages c.push.new.self
    c.in_ok-stage.stage c.loop-table-test.true c.table-item.is c.loop-table.invariant c.in_ok-stage.ensures c.in_ok-push.ensures.ok

pub returns-clause-stages : goal.returns-clause-stages
returns-clause-stages c =
    gathers_all (λ (table : TableRef). table_view table.now) (next_stage c.args.inputs.now c.args.sources.now) c.args.tables.now c.loop-table.table-index c.loop-table.stages c.loop-table-test.false c.loop-table.invariant
