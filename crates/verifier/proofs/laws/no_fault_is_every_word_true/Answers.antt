use Rattle.verifier.proofs.TrueReports.{fault-true, true-fault}
use Rattle.verifier.proofs.laws.no_fault_is_every_word_true.Goals as goal

pub returns : goal.returns
returns c = λ recipe inputs report is counted. (true-fault recipe inputs report, fault-true recipe inputs report is counted)
