use Rattle.std.proofs.Common.{◌≡◌, ◌++◌, take, drop}
use Rattle.audit_chain.specs.Chain.{remaining, remaining_after}
use Rattle.audit_chain.proofs.remaining_lines.remaining_of.Given as goal

abbrev pub invariant-loop-index : goal.invariant-loop-index
invariant-loop-index l = l.lines ++ remaining_after (take l.index l.links) (drop l.index l.links) ≡ remaining l.links
