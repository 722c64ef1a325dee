use Rattle.std.proofs.Common.{◌≡◌, false, take, All}
use Rattle.command_plan.specs.Lists.{is_line_feed}
use Rattle.command_plan.proofs.lists.next_line.Given as goal

abbrev pub invariant-loop-at : goal.invariant-loop-at
invariant-loop-at l = All (λ byte. is_line_feed byte ≡ false) (take l.at l.text)
