use Rattle.std.proofs.Common.{◌≡◌, ◌+◌, drop, length}
use Rattle.guest_run.specs.Stack.{ended_texts}
use Rattle.guest_run.proofs.stack.joined_size.Given as goal

abbrev pub invariant-loop-text : goal.invariant-loop-text
invariant-loop-text l = l.size + length (ended_texts (drop l.text-index l.texts)) ≡ length (ended_texts l.texts)
