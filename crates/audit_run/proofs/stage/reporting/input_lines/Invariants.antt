use Rattle.std.proofs.Common.{◌≡◌, ◌++◌, drop}
use Rattle.audit_rules.specs.Bench.{input_lines}
use Rattle.audit_run.proofs.stage.reporting.input_lines.Given as goal

abbrev pub invariant-loop-index : goal.invariant-loop-index
invariant-loop-index l = l.lines ++ input_lines (drop l.index l.inputs) (drop l.index l.given) ≡ input_lines l.inputs l.given
