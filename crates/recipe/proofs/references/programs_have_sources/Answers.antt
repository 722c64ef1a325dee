use Rattle.std.proofs.lemmas.Result.{err_from_is_err_and}
use Rattle.recipe.specs.SecondWalk.{program_has_source}
use Rattle.recipe.proofs.TextLemmas.Walks.{passes_more, passes_fails, passes_all}
use Rattle.recipe.proofs.references.programs_have_sources.Goals as goal

pub returns-in_err-program_has_source-clause-refers : goal.returns-in_err-program_has_source-clause-refers
returns-in_err-program_has_source-clause-refers c =
    let p = err_from_is_err_and c.from_residual.result c.from_residual.ensures.1 in
    rw (p.1, p.2) (passes_fails c.in_err-program_has_source.field-0.0 (program_has_source c.args.parsed.now) c.args.stages.now c.loop-stage.stage-index c.loop-stage.number c.stage-item.result
    c.loop-stage-test.true c.stage-item.is c.loop-stage.invariant c.in_err-program_has_source.ensures.refers)

pub loop-stage-preserved : goal.loop-stage-preserved
loop-stage-preserved c = passes_more (program_has_source c.args.parsed.now) c.args.stages.now c.loop-stage.stage-index c.loop-stage.number c.stage-item.result
    c.loop-stage-test.true c.stage-item.is c.loop-stage.invariant c.in_ok-program_has_source.ensures.refers

pub returns-clause-refers : goal.returns-clause-refers
returns-clause-refers c = passes_all (program_has_source c.args.parsed.now) c.args.stages.now c.loop-stage.stage-index c.loop-stage.number c.loop-stage-test.false c.loop-stage.invariant
