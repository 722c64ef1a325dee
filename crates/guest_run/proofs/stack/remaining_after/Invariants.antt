use Rattle.std.proofs.Common.{◌≡◌, ◌+◌, drop, sum_by}
use Rattle.guest_run.specs.Inside.Bounds.{cost}
use Rattle.guest_run.proofs.stack.remaining_after.Given as goal

abbrev pub invariant-loop-text : goal.invariant-loop-text
invariant-loop-text l = l.most + sum_by cost (drop l.text-index l.texts) ≡ l.remaining + sum_by cost l.texts
