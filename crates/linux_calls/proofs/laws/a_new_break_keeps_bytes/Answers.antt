use Rattle.linux_calls.proofs.BreakLaws.{get-resized_below}
use Rattle.linux_calls.proofs.laws.a_new_break_keeps_bytes.Goals as goal

pub returns : goal.returns
returns c = get-resized_below
