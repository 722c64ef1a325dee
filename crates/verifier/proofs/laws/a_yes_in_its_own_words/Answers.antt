use Rattle.verifier.proofs.TrueReports.{fault-yes, yes-fault}
use Rattle.verifier.proofs.laws.a_yes_in_its_own_words.Goals as goal

pub returns : goal.returns
returns c = λ recipe inputs report is counted. (yes-fault recipe inputs report, fault-yes recipe inputs report is counted)
