use Rattle.ddc_app.proofs.Leaving.{part_writes, pieces_wait, resume_writes}
use Rattle.ddc_app.proofs.laws.unwritten_stays.Goals as goal

pub returns-clause-part : goal.returns-clause-part
returns-clause-part c = λ recipe save report steps files. part_writes recipe save report files steps

pub returns-clause-resume : goal.returns-clause-resume
returns-clause-resume c = λ recipe save report steps files. resume_writes recipe save report files steps

pub returns-clause-pieces : goal.returns-clause-pieces
returns-clause-pieces c = pieces_wait
