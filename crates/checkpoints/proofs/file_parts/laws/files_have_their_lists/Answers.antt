use Rattle.checkpoints.proofs.FilePartsLemmas.SameLists.{same_lists}
use Rattle.checkpoints.proofs.file_parts.laws.files_have_their_lists.Goals as goal

pub returns : goal.returns
returns c = same_lists
