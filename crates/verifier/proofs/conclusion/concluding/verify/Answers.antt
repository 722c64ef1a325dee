use Rattle.verifier.specs.Faults.{first_fault}
use Rattle.verifier.proofs.ConclusionLemmas.Verdicts.{by-verdict}
use Rattle.verifier.proofs.conclusion.concluding.verify.Goals as goal

pub returns-clause-shown : goal.returns-clause-shown
returns-clause-shown g c =
    by-verdict g.M.Meaning.prescribes g.M.Meaning.compiles c.args.recipe.now c.args.inputs.now
    (first_fault c.args.recipe.now c.args.inputs.now c.args.report.now) c.args.report.now.compare c.verify.result c.verify.ensures.value
    (c.a_true_report_shows.ensures c.args.recipe.now c.args.inputs.now c.args.report.now c.show_rules.ensures c.requires)
