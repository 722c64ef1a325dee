use Rattle.std.proofs.Common.{◌≡◌, ◌-◌, length, sum_by, take}
use Rattle.verify_commands.proofs.chain.budget_after.Given as goal

abbrev pub invariant-loop-input : goal.invariant-loop-input
invariant-loop-input l = l.remaining ≡ l.budget - sum_by length (take l.input-index l.inputs)
