use Rattle.std.proofs.Common.{refl, ◌+◌}
use Rattle.audit_rules.proofs.Forwards.{forward-sum, forward_from-sum}
use Rattle.audit_rules.proofs.laws.steps_in_parts.Goals as goal

pub returns-clause-position : goal.returns-clause-position
returns-clause-position c = forward-sum

pub returns-clause-phase : goal.returns-clause-phase
returns-clause-phase c = λ recipe inputs from first more. forward_from-sum recipe inputs from first more (first + more) refl
