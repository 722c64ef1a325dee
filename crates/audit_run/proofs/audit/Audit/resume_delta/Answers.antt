use Rattle.std.proofs.Common.{ℕ, List, Ok, subst}
use Rattle.audit_run.specs.Delta.Deltas.{HasDelta, ResumesRelative}
use Rattle.audit_run.proofs.audit.Audit.resume_delta.Goals as goal

pub returns-clause-found : goal.returns-clause-found
returns-clause-found c = (
  c.in_ok-position.position,
  c.phase_at.ensures,
  c.in_ok-position.ensures.position,
  subst (λ (inputs : List (List ℕ)). HasDelta c.args.recipe inputs c.args.base.now c.args.delta.now c.in_ok-position.position) c.as_slice.ensures c.in_ok-position.ensures.found,
)

pub returns-clause-exact : goal.returns-clause-exact
returns-clause-exact c = (
  c.in_ok-position.position,
  c.phase_at.ensures,
  subst (λ (inputs : List (List ℕ)). ResumesRelative c.args.recipe inputs c.args.base.now c.args.delta.now (Ok c.in_ok-position.position)) c.as_slice.ensures c.in_ok-position.ensures.exact,
)
