use Rattle.checkpoints.proofs.FilePartsLemmas.GoodLists.{good_order, good_range, good_join}
use Rattle.checkpoints.proofs.file_parts.laws.sound_files_have_good_lists.Goals as goal

pub returns-clause-ordered : goal.returns-clause-ordered
returns-clause-ordered c = good_order

pub returns-clause-within : goal.returns-clause-within
returns-clause-within c = good_range

pub returns-clause-joined : goal.returns-clause-joined
returns-clause-joined c = good_join
