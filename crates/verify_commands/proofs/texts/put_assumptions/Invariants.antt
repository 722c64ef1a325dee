use Rattle.std.proofs.Common.{◌≡◌, ◌++◌, take}
use Rattle.std.specs.List.{flat_map}
use Rattle.verify_commands.specs.Texts.{assumption_line}
use Rattle.verify_commands.proofs.texts.put_assumptions.Given as goal

abbrev pub invariant-loop-assumption : goal.invariant-loop-assumption
invariant-loop-assumption l = l.text ≡ l.fn.text ++ flat_map assumption_line (take l.assumption-index l.assumptions)
