use Rattle.ddc_app.proofs.Leaving.{part_stays, pieces_stay, resume_stays}
use Rattle.ddc_app.proofs.laws.others_stay.Goals as goal

pub returns-clause-part : goal.returns-clause-part
returns-clause-part c = part_stays

pub returns-clause-resume : goal.returns-clause-resume
returns-clause-resume c = resume_stays

pub returns-clause-pieces : goal.returns-clause-pieces
returns-clause-pieces c = pieces_stay
