use Rattle.std.proofs.Common.{◌≡◌, length}
use Rattle.audit_commands.specs.Demo.{generated_bytes}
use Rattle.audit_commands.proofs.generated.generated_bytes.Given as goal

abbrev pub invariant-loop-index : goal.invariant-loop-index
invariant-loop-index l = (l.bytes ≡ generated_bytes l.index) × (length l.bytes ≡ l.index)
