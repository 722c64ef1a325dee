use Rattle.std.proofs.Common.{◌≡◌, ◌+◌, drop, sum_by}
use Rattle.save_format.specs.declared.state_text.parts.Run.{Run}
use Rattle.checkpoints.proofs.memory.remaining_after.Given as goal

abbrev pub invariant-loop-run : goal.invariant-loop-run
invariant-loop-run l = l.most + sum_by (λ (run : Run). run.pages) (drop l.run-index l.runs) ≡ l.remaining + sum_by (λ (run : Run). run.pages) l.runs
