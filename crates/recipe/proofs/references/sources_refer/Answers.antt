use Rattle.std.proofs.lemmas.Result.{err_from_is_err_and}
use Rattle.recipe.specs.SecondWalk.{source_refers}
use Rattle.recipe.proofs.TextLemmas.Walks.{passes_more, passes_fails, passes_all}
use Rattle.recipe.proofs.references.sources_refer.Goals as goal

pub returns-in_err-source_refers-clause-refers : goal.returns-in_err-source_refers-clause-refers
returns-in_err-source_refers-clause-refers c =
    let p = err_from_is_err_and c.from_residual.result c.from_residual.ensures.1 in
    rw (p.1, p.2) (passes_fails c.in_err-source_refers.field-0.0 (source_refers c.args.parsed.now) c.args.sources.now c.loop-source.source-index c.loop-source.number c.source-item.result
    c.loop-source-test.true c.source-item.is c.loop-source.invariant c.in_err-source_refers.ensures.refers)

pub loop-source-preserved : goal.loop-source-preserved
loop-source-preserved c = passes_more (source_refers c.args.parsed.now) c.args.sources.now c.loop-source.source-index c.loop-source.number c.source-item.result
    c.loop-source-test.true c.source-item.is c.loop-source.invariant c.in_ok-source_refers.ensures.refers

pub returns-clause-refers : goal.returns-clause-refers
returns-clause-refers c = passes_all (source_refers c.args.parsed.now) c.args.sources.now c.loop-source.source-index c.loop-source.number c.loop-source-test.false c.loop-source.invariant
