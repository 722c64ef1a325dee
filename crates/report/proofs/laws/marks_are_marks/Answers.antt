use Rattle.report.proofs.Marks.{is_mark}
use Rattle.report.proofs.laws.marks_are_marks.Goals as goal

pub returns : goal.returns
returns c = is_mark
