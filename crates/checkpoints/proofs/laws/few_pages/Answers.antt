use Rattle.checkpoints.proofs.SameText.{few_in_text}
use Rattle.checkpoints.proofs.laws.few_pages.Goals as goal

pub returns : goal.returns
returns c = few_in_text
