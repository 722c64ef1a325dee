use Rattle.std.proofs.lemmas.Result.{err_from_is_err_and}
use Rattle.toml.specs.View.{view}
use Rattle.recipe.specs.Text.Reading.{a_name}
use Rattle.recipe.proofs.TextLemmas.Walks.{gathers_more, gathers_fails, gathers_all}
use Rattle.recipe.proofs.text.lists.names.Goals as goal

pub returns-in_err-name : goal.returns-in_err-name
returns-in_err-name c =
    let p = err_from_is_err_and c.from_residual.result c.from_residual.ensures.1 in
    rw (p.1, p.2) (gathers_fails c.in_err-name.field-0.0 view (λ _ element. a_name c.args.place c.args.key element) c.args.values.now c.loop-value.value-index
    c.value-item.result c.loop-value.names c.loop-value-test.true c.value-item.is c.loop-value.invariant c.in_err-name.ensures.value)

pub loop-value-preserved : goal.loop-value-preserved
loop-value-preserved c =
    gathers_more view (λ _ element. a_name c.args.place c.args.key element) c.args.values.now c.loop-value.value-index c.value-item.result c.loop-value.names c.push.new.self
    c.in_ok-name.name c.loop-value-test.true c.value-item.is c.loop-value.invariant c.in_ok-name.ensures.value c.in_ok-push.ensures.ok

pub returns : goal.returns
returns c = gathers_all view (λ _ element. a_name c.args.place c.args.key element) c.args.values.now c.loop-value.value-index c.loop-value.names c.loop-value-test.false
    c.loop-value.invariant
