use Rattle.linux_calls.proofs.SmallAnswers.{syscall-small}
use Rattle.linux_calls.proofs.laws.answers_are_numbers.Goals as goal

pub returns : goal.returns
returns c = syscall-small
