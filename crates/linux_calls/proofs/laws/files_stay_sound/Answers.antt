use Rattle.linux_calls.proofs.SoundLaw.{syscall-sound}
use Rattle.linux_calls.proofs.laws.files_stay_sound.Goals as goal

pub returns : goal.returns
returns c = syscall-sound
