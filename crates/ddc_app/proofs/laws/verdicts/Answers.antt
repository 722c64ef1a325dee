use Rattle.ddc_app.proofs.Judging.{says_differs, says_refuted, says_yes}
use Rattle.ddc_app.proofs.laws.verdicts.Goals as goal

pub returns-clause-yes : goal.returns-clause-yes
returns-clause-yes c = says_yes

pub returns-clause-differs : goal.returns-clause-differs
returns-clause-differs c = says_differs

pub returns-clause-refuted : goal.returns-clause-refuted
returns-clause-refuted c = says_refuted
