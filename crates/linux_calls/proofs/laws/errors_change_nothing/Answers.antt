use Rattle.linux_calls.proofs.ErrorLaw.{leaves-syscall}
use Rattle.linux_calls.proofs.laws.errors_change_nothing.Goals as goal

pub returns : goal.returns
returns c = leaves-syscall
