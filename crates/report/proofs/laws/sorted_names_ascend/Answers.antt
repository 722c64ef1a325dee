use Rattle.report.proofs.Ascending.{ascend_from_sorted}
use Rattle.report.proofs.laws.sorted_names_ascend.Goals as goal

pub returns : goal.returns
returns c = ascend_from_sorted
