use Rattle.guest_run.proofs.Endings.{end-counted, end-valid, runs-valid, status-byte}
use Rattle.guest_run.proofs.laws.ends_leave_valid_states.Goals as goal

pub returns : goal.returns
returns c = record {
  counted = end-counted;
  valid = end-valid;
  status = status-byte;
  run = runs-valid;
}
