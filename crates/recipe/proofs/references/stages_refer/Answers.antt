use Rattle.std.proofs.lemmas.Result.{err_from_is_err_and}
use Rattle.recipe.specs.SecondWalk.{stage_refers}
use Rattle.recipe.proofs.TextLemmas.Walks.{passes_more, passes_fails, passes_all}
use Rattle.recipe.proofs.references.stages_refer.Goals as goal

pub returns-in_err-stage_refers-clause-refers : goal.returns-in_err-stage_refers-clause-refers
returns-in_err-stage_refers-clause-refers c =
    let p = err_from_is_err_and c.from_residual.result c.from_residual.ensures.1 in
    rw (p.1, p.2) (passes_fails c.in_err-stage_refers.field-0.0 (stage_refers c.args.parsed.now) c.args.stages.now c.loop-stage.stage-index c.loop-stage.number c.stage-item.result
    c.loop-stage-test.true c.stage-item.is c.loop-stage.invariant c.in_err-stage_refers.ensures.refers)

pub loop-stage-preserved : goal.loop-stage-preserved
loop-stage-preserved c = passes_more (stage_refers c.args.parsed.now) c.args.stages.now c.loop-stage.stage-index c.loop-stage.number c.stage-item.result
    c.loop-stage-test.true c.stage-item.is c.loop-stage.invariant c.in_ok-stage_refers.ensures.refers

pub returns-clause-refers : goal.returns-clause-refers
returns-clause-refers c = passes_all (stage_refers c.args.parsed.now) c.args.stages.now c.loop-stage.stage-index c.loop-stage.number c.loop-stage-test.false c.loop-stage.invariant
