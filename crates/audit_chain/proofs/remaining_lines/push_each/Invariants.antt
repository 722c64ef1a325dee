use Rattle.std.proofs.Common.{◌≡◌, ◌++◌, take}
use Rattle.audit_chain.proofs.Turns.{kept}
use Rattle.audit_chain.proofs.remaining_lines.push_each.Given as goal

abbrev pub invariant-loop-line : goal.invariant-loop-line
invariant-loop-line l = l.lines ≡ l.fn.lines ++ kept l.earlier l.link (take l.line-index l.listed)
