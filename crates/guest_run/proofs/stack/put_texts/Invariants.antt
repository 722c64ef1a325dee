use Rattle.std.proofs.Common.{◌≡◌, ◌++◌, drop}
use Rattle.guest_run.specs.Stack.{ended_texts}
use Rattle.guest_run.proofs.stack.put_texts.Given as goal

abbrev pub invariant-loop-text : goal.invariant-loop-text
invariant-loop-text l = l.bytes.items ++ ended_texts (drop l.text-index l.texts) ≡ l.fn.bytes.items ++ ended_texts l.texts
