use Rattle.audit_rules.proofs.ValidPositions.{beginning-phase, forward-phase, step-phase}
use Rattle.audit_rules.proofs.Rules.{rules}
use Rattle.audit_rules.proofs.laws.steps_keep_positions_valid.Goals as goal

pub returns-clause-step : goal.returns-clause-step
returns-clause-step c = λ recipe inputs p is given ok. step-phase recipe (rules recipe is) inputs given p ok

pub returns-clause-steps : goal.returns-clause-steps
returns-clause-steps c = λ recipe inputs p count is given ok. forward-phase recipe (rules recipe is) inputs given p ok count

pub returns-clause-beginning : goal.returns-clause-beginning
returns-clause-beginning c = λ recipe inputs is given. beginning-phase recipe (rules recipe is) inputs given
