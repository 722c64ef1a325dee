use Rattle.guest_run.proofs.Endings.{run-left, run-numbers, run-sound}
use Rattle.guest_run.proofs.laws.runs_leave_sound_files.Goals as goal

pub returns : goal.returns
returns c = record {
  sound = run-sound;
  left = run-left;
  numbers = run-numbers;
}
