use Rattle.verifier.proofs.ConclusionLemmas.Verdicts.{by-comparisons}
use Rattle.verifier.proofs.conclusion.laws.a_true_report_shows.Goals as goal

pub returns : goal.returns
returns g c recipe inputs report ok given none =
    by-comparisons g.M.Meaning.prescribes g.M.Meaning.compiles recipe inputs report.compare
    (c.the_bench_concludes.ensures recipe inputs report ok given ((c.one_report.ensures recipe inputs report ok given).0 none))
