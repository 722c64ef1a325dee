use Rattle.std.proofs.lemmas.Result.{err_from_is_err_and}
use Rattle.recipe.specs.SecondWalk.{input_refers}
use Rattle.recipe.proofs.TextLemmas.Walks.{passes_more, passes_fails, passes_all}
use Rattle.recipe.proofs.references.inputs_refer.Goals as goal

pub returns-in_err-input_refers-clause-refers : goal.returns-in_err-input_refers-clause-refers
returns-in_err-input_refers-clause-refers c =
    let p = err_from_is_err_and c.from_residual.result c.from_residual.ensures.1 in
    rw (p.1, p.2) (passes_fails c.in_err-input_refers.field-0.0 (input_refers c.args.parsed.now) c.args.inputs.now c.loop-input.input-index c.loop-input.number c.input-item.result
    c.loop-input-test.true c.input-item.is c.loop-input.invariant c.in_err-input_refers.ensures.refers)

pub loop-input-preserved : goal.loop-input-preserved
loop-input-preserved c = passes_more (input_refers c.args.parsed.now) c.args.inputs.now c.loop-input.input-index c.loop-input.number c.input-item.result
    c.loop-input-test.true c.input-item.is c.loop-input.invariant c.in_ok-input_refers.ensures.refers

pub returns-clause-refers : goal.returns-clause-refers
returns-clause-refers c = passes_all (input_refers c.args.parsed.now) c.args.inputs.now c.loop-input.input-index c.loop-input.number c.loop-input-test.false c.loop-input.invariant
