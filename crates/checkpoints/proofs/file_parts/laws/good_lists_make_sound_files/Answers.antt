use Rattle.mem_files.proofs.ListRules.{lists-sound}
use Rattle.checkpoints.proofs.file_parts.laws.good_lists_make_sound_files.Goals as goal

pub returns : goal.returns
returns c = lists-sound
