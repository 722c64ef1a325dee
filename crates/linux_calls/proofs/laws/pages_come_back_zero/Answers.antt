use Rattle.linux_calls.proofs.BreakLaws.{get-resized_again}
use Rattle.linux_calls.proofs.laws.pages_come_back_zero.Goals as goal

pub returns : goal.returns
returns c = get-resized_again
