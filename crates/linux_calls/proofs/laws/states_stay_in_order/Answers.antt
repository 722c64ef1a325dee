use Rattle.linux_calls.proofs.StateLaw.{syscall-state}
use Rattle.linux_calls.proofs.laws.states_stay_in_order.Goals as goal

pub returns : goal.returns
returns c = syscall-state
