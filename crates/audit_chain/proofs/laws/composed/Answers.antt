use Rattle.audit_chain.proofs.Composing.{composed-law}
use Rattle.audit_chain.proofs.laws.composed.Goals as goal

pub returns : goal.returns
returns g c =
    composed-law g.M.Meaning.prescribes g.M.Meaning.compiles
    (λ link audit lines. c.an_equal_bench_concludes.ensures link.recipe link.inputs audit.report audit.rules audit.limits
    ((c.one_report.ensures link.recipe link.inputs audit.report audit.rules audit.limits).0 audit.true_report) audit.equal lines)
