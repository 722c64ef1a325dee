use Rattle.verifier.proofs.OneReport.{fault-none, none-fault}
use Rattle.verifier.proofs.laws.one_report.Goals as goal

pub returns : goal.returns
returns c = λ recipe inputs report is given. (fault-none recipe inputs report given.count, none-fault recipe inputs report given.count)
