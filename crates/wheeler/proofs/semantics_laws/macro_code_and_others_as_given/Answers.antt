use Rattle.wheeler.proofs.SettledLines.{as-given-beside, as-macro}
use Rattle.wheeler.proofs.semantics_laws.macro_code_and_others_as_given.Goals as goal

pub returns-clause-macro_code : goal.returns-clause-macro_code
returns-clause-macro_code g c = as-macro g.L.OtherLanguages.prescribes

pub returns-clause-others : goal.returns-clause-others
returns-clause-others g c = as-given-beside g.L.OtherLanguages.prescribes
